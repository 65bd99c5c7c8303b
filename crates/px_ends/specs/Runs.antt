-- Runs of blocks at two ends, what a run on the one machine must meet, and that both are alike.
use Rattle.std.specs.Prelude.{◌≡◌, ℕ, zero, suc, Bool, true, false, List, [], ◌∷◌, ◌++◌, Option, Some, None, Ok, Err}
use Rattle.std.specs.List.{AllByRecursion}
use Rattle.px_value.specs.declared.value.Value.{Value}
use Rattle.px_value.specs.declared.thrown.Thrown.{Thrown}
use Rattle.px_value.specs.declared.object.Object.{Object}
use Rattle.px_value.specs.Operators.{Applied}
use Rattle.px_value.specs.Outcome.{Outcome, Gives, Throws, Asks as LeavesOpen}
use Rattle.px_effects.specs.Act.{Place as Cell}
use Rattle.px_blocks.specs.declared.side.Side.{Side}
use Rattle.px_blocks.specs.declared.side.Side.TheVariants.{App}
use Rattle.px_normal.specs.declared.word.Word.{Word}
use Rattle.px_blocks.specs.declared.block.Block.{Block}
use Rattle.px_blocks.specs.declared.block.Deed.{Deed}
use Rattle.px_blocks.specs.declared.block.Deed.TheVariants as deed
use Rattle.px_blocks.specs.declared.block.Exit.{Exit}
use Rattle.px_blocks.specs.declared.block.Send.{Send}
use Rattle.px_blocks.specs.declared.block.Statement.{Statement}
use Rattle.px_blocks.specs.Sides.{other, same_side}
use Rattle.px_effects.specs.Act.{Act, Printed, Acted, acted, header_at, landed}
use Rattle.px_effects.specs.Operations.{Acts, Said, told, with_said}
use Rattle.px_normal.specs.Words.{Does, Works, does_of, answer_of, to_of, is_return}
use Rattle.px_normal.specs.Run.{Ran}
use Rattle.px_effects.specs.Run.{Shared, Ask}
use Rattle.px_blocks.specs.Plan.{Plan, firsts_of, kept}
use Rattle.px_blocks.specs.Machine.{Control, Machine, values_of, top, put_in_slot, marked, named, namings, block_at, How, Next, Fell, Waits as Awaits, Stop, RunsOn, Stops, Stepped, step, Done, block_run, block_answered, end_left, is_last}
use Rattle.px_blocks.specs.Message.{transfer, absorbed, emitted}
use Rattle.px_blocks.specs.One.{Happening, Did, Sent, AskedAt, ToldAt, Aborted, One, Step, Goes, Ended, Falls, Waits, Asks, shared_of, side_next, pass, one_step, one_moves, goes_on}
use Rattle.px_ends.specs.Agree.{Split, Agree}

-- ---- two ends

-- Two ends, with the block that comes next. `near` is the end with control.
pub record Pair (W : Type 0) : Type 0 where
  pub side : Side
  pub block : ℕ
  pub near : Machine
  pub far : Machine
  pub world : W
  pub operations : ℕ
  pub story : List Happening

abbrev pub crossed : {W : Type 0} → Plan → Pair W → Pair W
crossed plan p =
    let t = transfer plan p.block p.near.control p.near.heap in
    record p { side = other p.side; near = absorbed plan t p.far; far = emitted p.near; story = p.story ++ Sent (other p.side) t ∷ [] }

abbrev pub crossed_if : {W : Type 0} → Bool → Plan → Pair W → Pair W
crossed_if true plan p = p
crossed_if false plan p = crossed plan p

-- control comes to where the next block is
abbrev pub come : {W : Type 0} → Plan → Pair W → Pair W
come plan p = crossed_if (same_side p.side (side_next plan p.block p.near.control p.side)) plan p

abbrev pub pair_after : {Q W : Type 0} → Pair W → List Ran → Machine → How → Step Q (Pair W)
pair_after p r near (Next n) = Goes (record p { block = n; near = near; story = p.story ++ Did p.side r ∷ [] })
pair_after p r near (Fell t) = Falls t (record p { near = near; story = p.story ++ Did p.side r ∷ Aborted p.side t ∷ [] })
pair_after p r near (Awaits op s) = Waits op s (record p { near = near; story = p.story ++ Did p.side r ∷ AskedAt p.side op ∷ [] })

abbrev pub pair_done : {Q W : Type 0} → Pair W → Done → Step Q (Pair W)
pair_done p d = pair_after p d.ran d.machine d.how

abbrev pub pair_end : {Q W : Type 0} → Bool → Plan → Pair W → Step Q (Pair W)
pair_end true plan p = Ended p
pair_end false plan p = pair_done p (end_left plan p.near)

abbrev pub pair_at : {Q W : Type 0} → Plan → Option Block → Pair W → Step Q (Pair W)
pair_at plan None p = pair_end (is_last p.near.control) plan p
pair_at plan (Some b) p = pair_done p (block_run plan p.block b p.near)

-- a block at the end where it is
abbrev pub pair_step : {Q W : Type 0} → Plan → Pair W → Step Q (Pair W)
pair_step plan p = pair_at plan (block_at plan.blocks.blocks p.block) (come plan p)

-- ---- what is said to a question

-- what is told of, of the end with control
abbrev pub pair_shared : {W : Type 0} → Pair W → Shared W
pair_shared p = record { heap = p.near.heap; world = p.world; prints = p.near.prints; turns = p.near.control.turns; operations = p.operations }

-- the world, and how many operations were asked
abbrev pub pair_asked : {W : Type 0} → Shared W → Pair W → Pair W
pair_asked s p = record p { world = s.world; operations = s.operations }

abbrev pub pair_hears : {W : Type 0} → Said → Pair W → Pair W
pair_hears said p = record p { story = p.story ++ ToldAt p.side said ∷ [] }

abbrev pub pair_aborted : {W : Type 0} → Thrown → Pair W → Pair W
pair_aborted t p = record p { story = p.story ++ Aborted p.side t ∷ [] }

abbrev pub pair_answers : {Q W : Type 0} → Plan → Option Block → Statement → Said → Pair W → Step Q (Pair W)
pair_answers plan None s said p = Goes p
pair_answers plan (Some b) s said p = pair_done p (block_answered plan b s said p.near)

-- the statement that waits goes on with what is said
abbrev pub pair_answer : {Q W : Type 0} → Plan → Statement → Said → Pair W → Step Q (Pair W)
pair_answer plan s said p = pair_answers plan (block_at plan.blocks.blocks p.block) s said (pair_hears said p)

abbrev pub pair_told : {Q W : Type 0} → Plan → Statement → Pair W → Outcome Q (Shared W) Said → Step Q (Pair W)
pair_told plan s p (Gives said g) = pair_answer plan s said (pair_asked g p)
pair_told plan s p (Throws t g) = Falls t (pair_aborted t (pair_asked g p))
pair_told plan s p (LeavesOpen q g) = Asks q s (pair_asked g p)

-- the operation of a statement that waits is asked
abbrev pub pair_asks : {Q W : Type 0} → Plan → Ask Q W → Step Q (Pair W) → Step Q (Pair W)
pair_asks plan ask (Waits op s p) = pair_told plan s p (told ask op (pair_shared p))
pair_asks plan ask x = x

-- ---- a run

abbrev pub pair_moves : {Q W : Type 0} → Plan → Ask Q W → Pair W → Step Q (Pair W)
pair_moves plan ask p = pair_asks plan ask (pair_step plan p)

-- at most n blocks
unfoldable pub pair_run : {Q W : Type 0} → Plan → Ask Q W → ℕ → Pair W → Step Q (Pair W)
pair_run plan ask zero p = Goes p
pair_run plan ask (suc n) p = goes_on (pair_run plan ask n) (pair_moves plan ask p)

-- ---- what the run on the one machine must meet

-- the cell is kept at the side
abbrev pub IsKept : Plan → Side → List Object → Cell → Type 0
IsKept plan side heap c = kept plan side (header_at heap c.object) c.index ≡ true

-- each cell that was written and the other side keeps is named
abbrev pub SendsName : Plan → Side → List Object → List Cell → Option Send → Control → Type 0
SendsName plan side heap writes send c = (o i : ℕ) → marked writes o i ≡ true → kept plan (other side) (header_at heap o) i ≡ true → named plan (header_at heap o) (namings send (values_of c)) o i ≡ true

-- a return writes nothing; of any other word the send is done when its value is in its slot
abbrev pub SendsOf : Bool → Plan → Side → Option Send → Word → Acted → Value → Control → Type 0
SendsOf true plan side send word a v c = a.writes ≡ []
SendsOf false plan side send word a v c = SendsName plan side a.heap a.writes send (put_in_slot (top c.frames) (to_of word) v c)

abbrev pub SendsIf : Plan → Side → Option Send → Word → Acted → Applied → Control → Type 0
SendsIf plan side send word a (Ok v) c = SendsOf (is_return word) plan side send word a v c
SendsIf plan side send word a (Err t) c = Unit {0}

-- What a statement reads its side keeps; its send names what it writes and the other side keeps; and it prints at APP alone.
pub record IsGoodAct (plan : Plan) (side : Side) (send : Option Send) (word : Word) (m : Machine) (a : Acted) : Type 0 where
  pub reads : AllByRecursion (IsKept plan side a.heap) a.reads
  pub sends : SendsIf plan side send word a (landed m.prints a.ends).value m.control
  pub prints : (line : List ℕ) → a.ends ≡ Printed line → side ≡ App

abbrev pub IsGood : Plan → Side → Option Send → Word → Act → Machine → Type 0
IsGood plan side send word act m = IsGoodAct plan side send word m (acted (firsts_of plan.code) act m.heap)

abbrev pub GoodDoes : Plan → Side → Option Send → Word → Machine → Does → Type 0
GoodDoes plan side send word m (Works (Acts act)) = IsGood plan side send word act m
GoodDoes plan side send word m _ = Unit {0}

abbrev pub GoodDeed : Plan → Side → Option Send → Machine → Deed → Type 0
GoodDeed plan side send m (deed.Does word) = GoodDoes plan side send word m (does_of plan.code word (values_of m.control))
GoodDeed plan side send m _ = Unit {0}

abbrev pub GoodTold : Plan → Side → Option Send → Said → Machine → Deed → Type 0
GoodTold plan side send said m (deed.Does word) = IsGood plan side send word (with_said (answer_of word) said) m
GoodTold plan side send said m _ = Unit {0}

-- ---- what is so of each statement of a run on the one machine: P as it begins, H as it hears what is said

abbrev pub Begins : Type 1
Begins = Side → Statement → Machine → Type 0

abbrev pub Hears : Type 1
Hears = Side → Statement → Said → Machine → Type 0

abbrev pub MeetsRest : Stop → Type 0 → Type 0
MeetsRest RunsOn P = P
MeetsRest _ P = Unit {0}

abbrev pub MeetsSteps : Begins → Plan → Side → (block : ℕ) → Exit → List Statement → Machine → Type 0
MeetsSteps P plan side n e [] m = Unit {0}
MeetsSteps P plan side n e (s ∷ rest) m = P side s m × MeetsRest (step plan n e s m).stop (MeetsSteps P plan side n e rest (step plan n e s m).machine)

abbrev pub MeetsBlock : {W : Type 0} → Begins → Plan → Option Block → One W → Type 0
MeetsBlock P plan None o = Unit {0}
MeetsBlock P plan (Some b) o = MeetsSteps P plan o.side o.block b.exit b.statements o.machine

abbrev pub MeetsStep : {W : Type 0} → Begins → Plan → One W → Type 0
MeetsStep P plan o = MeetsBlock P plan (block_at plan.blocks.blocks o.block) (pass plan o)

abbrev pub MeetsTold : {Q W : Type 0} → Hears → Statement → One W → Outcome Q (Shared W) Said → Type 0
MeetsTold H s o (Gives said g) = H o.side s said o.machine
MeetsTold H s o _ = Unit {0}

abbrev pub MeetsAsked : {Q W : Type 0} → Hears → Ask Q W → Step Q (One W) → Type 0
MeetsAsked H ask (Waits op s o) = MeetsTold H s o (told ask op (shared_of o))
MeetsAsked H ask _ = Unit {0}

abbrev pub MeetsOn : {Q W : Type 0} → (One W → Type 0) → Step Q (One W) → Type 0
MeetsOn rest (Goes o) = rest o
MeetsOn rest _ = Unit {0}

unfoldable pub MeetsRun : {Q W : Type 0} → Begins → Hears → Plan → Ask Q W → ℕ → One W → Type 0
MeetsRun P H plan ask zero o = Unit {0}
MeetsRun P H plan ask (suc n) o = MeetsStep P plan o × MeetsAsked H ask (one_step plan o) × MeetsOn (MeetsRun P H plan ask n) (one_moves plan ask o)

-- ---- a good run

abbrev pub IsGoodBegin : Plan → Begins
IsGoodBegin plan = λ side s m. GoodDeed plan side s.send m s.deed

abbrev pub IsGoodTold : Plan → Hears
IsGoodTold plan = λ side s said m. GoodTold plan side s.send said m s.deed

abbrev pub GoodSteps : Plan → Side → ℕ → Exit → List Statement → Machine → Type 0
GoodSteps plan = MeetsSteps (IsGoodBegin plan) plan

abbrev pub GoodBlock : {W : Type 0} → Plan → Option Block → One W → Type 0
GoodBlock plan = MeetsBlock (IsGoodBegin plan) plan

abbrev pub GoodStep : {W : Type 0} → Plan → One W → Type 0
GoodStep plan = MeetsStep (IsGoodBegin plan) plan

abbrev pub GoodAnswer : {W : Type 0} → Plan → Statement → Said → One W → Type 0
GoodAnswer plan s said o = IsGoodTold plan o.side s said o.machine

abbrev pub GoodRun : {Q W : Type 0} → Plan → Ask Q W → ℕ → One W → Type 0
GoodRun plan = MeetsRun (IsGoodBegin plan) (IsGoodTold plan) plan

-- ---- alike

pub record Agrees {W : Type 0} (plan : Plan) (p : Pair W) (o : One W) : Type 0 where
  pub side : p.side ≡ o.side
  pub block : p.block ≡ o.block
  pub world : p.world ≡ o.world
  pub operations : p.operations ≡ o.operations
  pub story : p.story ≡ o.story
  pub agree : Agree plan o.side p.near p.far o.machine

-- after a throw
pub record FellAlike {W : Type 0} (plan : Plan) (p : Pair W) (o : One W) : Type 0 where
  pub side : p.side ≡ o.side
  pub world : p.world ≡ o.world
  pub operations : p.operations ≡ o.operations
  pub story : p.story ≡ o.story
  pub split : Split plan o.side p.near p.far o.machine

abbrev pub SameStep : {Q W : Type 0} → Plan → Step Q (Pair W) → Step Q (One W) → Type 0
SameStep plan (Goes p) (Goes o) = Agrees plan p o
SameStep plan (Ended p) (Ended o) = Agrees plan p o × (o.side ≡ App)
SameStep plan (Falls t p) (Falls u o) = (t ≡ u) × FellAlike plan p o
SameStep plan (Waits op s p) (Waits oq u o) = (op ≡ oq) × (s ≡ u) × Agrees plan p o
SameStep plan (Asks q s p) (Asks r u o) = (q ≡ r) × (s ≡ u) × Agrees plan p o
SameStep plan _ _ = ⊥

-- all agrees, but after a throw the names of what was written
abbrev pub AgreeBy : Plan → Side → Machine → How → Machine → Machine → Type 0
AgreeBy plan side far (Fell t) near one = Split plan side near far one
AgreeBy plan side far _ near one = Agree plan side near far one

-- after a statement
abbrev pub AgreeAt : Stop → Plan → Side → Machine → Machine → Machine → Type 0
AgreeAt (Stops how) plan side near far one = AgreeBy plan side far how near one
AgreeAt RunsOn plan side near far one = Agree plan side near far one

pub record StepsAlike (plan : Plan) (side : Side) (far : Machine) (a b : Stepped) : Type 0 where
  pub ran : a.ran ≡ b.ran
  pub stop : a.stop ≡ b.stop
  pub agree : AgreeAt b.stop plan side a.machine far b.machine

pub record BlocksAlike (plan : Plan) (side : Side) (far : Machine) (a b : Done) : Type 0 where
  pub ran : a.ran ≡ b.ran
  pub how : a.how ≡ b.how
  pub agree : AgreeBy plan side far b.how a.machine b.machine
