-- The one machine: blocks in their order on one heap, with the messages that would go between two ends.
use Rattle.std.specs.Prelude.{ℕ, zero, suc, Bool, true, false, List, [], ◌∷◌, ◌++◌, length, Option, Some, None, unwrap_or, slice_get}
use Rattle.px_value.specs.declared.value.Value.{Value}
use Rattle.px_value.specs.declared.value.Value.TheVariants.{Null, Ref}
use Rattle.px_value.specs.declared.object.Object.{Object}
use Rattle.px_value.specs.declared.statement.TableOp.{TableOp}
use Rattle.px_value.specs.declared.thrown.Thrown.{Thrown}
use Rattle.px_blocks.specs.declared.side.Side.{Side}
use Rattle.px_blocks.specs.declared.side.Side.TheVariants.{App}
use Rattle.px_blocks.specs.declared.block.Block.{Block}
use Rattle.px_blocks.specs.declared.block.Blocks.{Blocks}
use Rattle.px_blocks.specs.declared.block.Statement.{Statement}
use Rattle.px_blocks.specs.Sides.{other, same_side}
use Rattle.px_normal.specs.First.{numbered}
use Rattle.px_value.specs.Outcome.{Outcome, Gives, Throws, Asks as LeavesOpen}
use Rattle.px_effects.specs.Run.{Shared, Ask}
use Rattle.px_effects.specs.Operations.{Said, told}
use Rattle.px_normal.specs.Run.{Ran, Traced}
use Rattle.px_blocks.specs.Plan.{Plan}
use Rattle.px_blocks.specs.Machine.{Frame, blank_slots, entered, slots_at, values_in, Control, Machine, How, Next, Fell, Waits as Awaits, Done, block_at, block_run, block_answered, end_left, is_last}
use Rattle.px_blocks.specs.Message.{Updates, Transfer, transfer, handed}

-- ---- what happens

pub data Happening : Type 0 where
  -- statements run at a side
  Did : Side → List Ran → Happening
  -- control goes to a side with a message
  Sent : Side → Transfer → Happening
  -- at a side an operation is asked, and something is said to it
  AskedAt : Side → TableOp → Happening
  ToldAt : Side → Said → Happening
  -- a throw ends the call, from the side with control
  Aborted : Side → Thrown → Happening
  -- the updates with which a call ends
  Committed : Updates → Happening

-- the statements that ran
abbrev pub ran_in : Happening → List Ran
ran_in (Did side ran) = ran
ran_in _ = []

abbrev pub all_ran : List Happening → List Ran
all_ran [] = []
all_ran (h ∷ hs) = ran_in h ++ all_ran hs

-- The one machine, which knows where its blocks would run, the block that comes next, and the world that answers.
pub record One (W : Type 0) : Type 0 where
  pub side : Side
  pub block : ℕ
  pub machine : Machine
  pub world : W
  pub operations : ℕ
  pub story : List Happening

-- What comes of a step: it goes on, the call is at its end, or a throw ends it; or a statement waits for what is said to its operation, which isn't asked yet; or it was asked, and a question Q is open.
pub data Step (Q S : Type 0) : Type 0 where
  Goes : S → Step Q S
  Ended : S → Step Q S
  Falls : Thrown → S → Step Q S
  Waits : TableOp → Statement → S → Step Q S
  Asks : Q → Statement → S → Step Q S

-- ---- where a block runs

-- The end of a method runs where control is, the end of the call at APP.
abbrev pub end_side : Bool → Side → Side
end_side true side = App
end_side false side = side

abbrev pub side_of_block : Option Block → Control → Side → Side
side_of_block (Some b) c side = b.side
side_of_block None c side = end_side (is_last c) side

abbrev pub side_next : Plan → ℕ → Control → Side → Side
side_next plan n c side = side_of_block (block_at plan.blocks.blocks n) c side

-- ---- control goes over

abbrev pub passed : {W : Type 0} → Plan → One W → One W
passed plan o = record o { side = other o.side; machine = handed o.machine; story = o.story ++ Sent (other o.side) (transfer plan o.block o.machine.control o.machine.heap) ∷ [] }

abbrev pub passed_if : {W : Type 0} → Bool → Plan → One W → One W
passed_if true plan o = o
passed_if false plan o = passed plan o

abbrev pub pass : {W : Type 0} → Plan → One W → One W
pass plan o = passed_if (same_side o.side (side_next plan o.block o.machine.control o.side)) plan o

-- ---- a block

abbrev pub aborted : {W : Type 0} → Thrown → One W → One W
aborted t o = record o { story = o.story ++ Aborted o.side t ∷ [] }

abbrev pub one_after : {Q W : Type 0} → One W → List Ran → Machine → How → Step Q (One W)
one_after o r m (Next n) = Goes (record o { block = n; machine = m; story = o.story ++ Did o.side r ∷ [] })
one_after o r m (Fell t) = Falls t (record o { machine = m; story = o.story ++ Did o.side r ∷ Aborted o.side t ∷ [] })
one_after o r m (Awaits op s) = Waits op s (record o { machine = m; story = o.story ++ Did o.side r ∷ AskedAt o.side op ∷ [] })

abbrev pub one_done : {Q W : Type 0} → One W → Done → Step Q (One W)
one_done o d = one_after o d.ran d.machine d.how

abbrev pub one_end : {Q W : Type 0} → Bool → Plan → One W → Step Q (One W)
one_end true plan o = Ended o
one_end false plan o = one_done o (end_left plan o.machine)

abbrev pub one_at : {Q W : Type 0} → Plan → Option Block → One W → Step Q (One W)
one_at plan None o = one_end (is_last o.machine.control) plan o
one_at plan (Some b) o = one_done o (block_run plan o.block b o.machine)

-- a block, or the end of a method
abbrev pub one_step : {Q W : Type 0} → Plan → One W → Step Q (One W)
one_step plan o = one_at plan (block_at plan.blocks.blocks o.block) (pass plan o)

-- ---- what is said to a question

abbrev pub shared_of : {W : Type 0} → One W → Shared W
shared_of o = record { heap = o.machine.heap; world = o.world; prints = o.machine.prints; turns = o.machine.control.turns; operations = o.operations }

-- the world, and how many operations were asked
abbrev pub with_asked : {W : Type 0} → Shared W → One W → One W
with_asked s o = record o { world = s.world; operations = s.operations }

abbrev pub one_hears : {W : Type 0} → Said → One W → One W
one_hears said o = record o { story = o.story ++ ToldAt o.side said ∷ [] }

abbrev pub one_answers : {Q W : Type 0} → Plan → Option Block → Statement → Said → One W → Step Q (One W)
one_answers plan None s said o = Goes o
one_answers plan (Some b) s said o = one_done o (block_answered plan b s said o.machine)

-- the statement that waits goes on with what is said
abbrev pub one_answer : {Q W : Type 0} → Plan → Statement → Said → One W → Step Q (One W)
one_answer plan s said o = one_answers plan (block_at plan.blocks.blocks o.block) s said (one_hears said o)

abbrev pub one_told : {Q W : Type 0} → Plan → Statement → One W → Outcome Q (Shared W) Said → Step Q (One W)
one_told plan s o (Gives said g) = one_answer plan s said (with_asked g o)
one_told plan s o (Throws t g) = Falls t (aborted t (with_asked g o))
one_told plan s o (LeavesOpen q g) = Asks q s (with_asked g o)

-- the operation of a statement that waits is asked
abbrev pub one_asks : {Q W : Type 0} → Plan → Ask Q W → Step Q (One W) → Step Q (One W)
one_asks plan ask (Waits op s o) = one_told plan s o (told ask op (shared_of o))
one_asks plan ask x = x

-- ---- a run

unfoldable pub one_moves : {Q W : Type 0} → Plan → Ask Q W → One W → Step Q (One W)
one_moves plan ask o = one_asks plan ask (one_step plan o)

-- several blocks
pub data Leads {Q W : Type 0} (plan : Plan) (ask : Ask Q W) : Step Q (One W) → Step Q (One W) → Type 0 where
  here : {x : Step Q (One W)} → Leads plan ask x x
  on : {o : One W} {y : Step Q (One W)} → Leads plan ask (one_moves plan ask o) y → Leads plan ask (Goes o) y

abbrev pub goes_on : {Q S : Type 0} → (S → Step Q S) → Step Q S → Step Q S
goes_on rest (Goes o) = rest o
goes_on rest x = x

-- at most n blocks
unfoldable pub one_run : {Q W : Type 0} → Plan → Ask Q W → ℕ → One W → Step Q (One W)
one_run plan ask zero o = Goes o
one_run plan ask (suc n) o = goes_on (one_run plan ask n) (one_moves plan ask o)

-- ---- a call

abbrev pub root_frame : Plan → Frame
root_frame plan = record { method = 0; back = 0; slots = blank_slots plan.code 0 }

abbrev pub begun : Plan → ℕ → List Value → List Object → Machine
begun plan method args heap = record {
  heap = heap;
  prints = [];
  control = record { frames = root_frame plan ∷ entered plan.code method 0 (Ref 0 ∷ args) ∷ []; base = 0; marks = []; named = []; known = length heap; turns = 0 };
}

abbrev pub first_of : Blocks → ℕ → ℕ
first_of blocks method = unwrap_or (numbered blocks.firsts method) 0

abbrev pub one_begun : {W : Type 0} → Plan → ℕ → List Value → List Object → W → One W
one_begun plan method args heap world = record { side = App; block = first_of plan.blocks method; machine = begun plan method args heap; world = world; operations = 0; story = [] }

-- ---- what a run leaves

abbrev pub reply_of : Control → Value
reply_of c = unwrap_or (slice_get (values_in (slots_at c.frames 0)) 0) Null

-- what the run of code carries, as the one machine has it
abbrev pub traced : {W : Type 0} → One W → Traced W
traced o = record { shared = shared_of o; ran = all_ran o.story }
