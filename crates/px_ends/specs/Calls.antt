-- From call to call: both ends at rest, the begin of a call, its commit, and a session's calls.
use Rattle.std.specs.Prelude.{◌≡◌, ℕ, true, List, [], ◌∷◌, length, is_some}
use Rattle.px_value.specs.declared.value.Value.{Value}
use Rattle.px_value.specs.declared.object.Object.{Object}
use Rattle.px_value.specs.Heap.{cell_at}
use Rattle.px_blocks.specs.declared.side.Side.TheVariants.{App, Db}
use Rattle.px_ends.specs.Agree.{headers}
use Rattle.px_effects.specs.Act.{header_at}
use Rattle.px_effects.specs.Run.{Ask}
use Rattle.px_blocks.specs.Plan.{Plan, kept}
use Rattle.px_blocks.specs.Machine.{Machine}
use Rattle.px_blocks.specs.Message.{in_control, updates, with_updates}
use Rattle.px_blocks.specs.One.{One, Step, Goes, Ended, Falls, Waits, Asks, begun, first_of, one_begun, one_run, reply_of}
use Rattle.px_ends.specs.Runs.{Pair, Agrees, FellAlike, pair_run, GoodRun}

-- ---- between two calls

-- each end has the newest value of what it keeps
pub record RestingCopies (plan : Plan) (app db one : List Object) (o i : ℕ) : Type 0 where
  pub app_there : is_some (cell_at app o i) ≡ is_some (cell_at one o i)
  pub db_there : is_some (cell_at db o i) ≡ is_some (cell_at one o i)
  pub app_kept : kept plan App (header_at one o) i ≡ true → cell_at app o i ≡ cell_at one o i
  pub db_kept : kept plan Db (header_at one o) i ≡ true → cell_at db o i ≡ cell_at one o i

-- both ends together have the one heap
pub record Rests (plan : Plan) (app db one : List Object) : Type 0 where
  pub app_headers : headers app ≡ headers one
  pub db_headers : headers db ≡ headers one
  pub copies : (o i : ℕ) → RestingCopies plan app db one o i

-- ---- the begin of a call

abbrev pub attending : List Object → Machine
attending heap = record { heap = heap; prints = []; control = in_control [] 0 (length heap) }

abbrev pub pair_begun : {W : Type 0} → Plan → ℕ → List Value → List Object → List Object → W → Pair W
pair_begun plan method args app db world = record { side = App; block = first_of plan.blocks method; near = begun plan method args app; far = attending db; world = world; operations = 0; story = [] }

-- ---- the end of a call

-- what the other end has after the commit
abbrev pub committed : Plan → Machine → Machine → List Object
committed plan near far = with_updates plan (updates plan near.control near.heap) far.heap

-- the reply, the lines printed, what happened and the updates of the commit are those of the one machine, and both ends have its heap
pub record Replied {W : Type 0} (plan : Plan) (p : Pair W) (o : One W) : Type 0 where
  pub reply : reply_of p.near.control ≡ reply_of o.machine.control
  pub prints : p.near.prints ≡ o.machine.prints
  pub turns : p.near.control.turns ≡ o.machine.control.turns
  pub world : p.world ≡ o.world
  pub operations : p.operations ≡ o.operations
  pub story : p.story ≡ o.story
  pub message : updates plan p.near.control p.near.heap ≡ updates plan o.machine.control o.machine.heap
  pub rests : Rests plan p.near.heap (committed plan p.near p.far) o.machine.heap

abbrev pub SameCall : {Q W : Type 0} → Plan → Step Q (Pair W) → Step Q (One W) → Type 0
SameCall plan (Goes p) (Goes o) = Agrees plan p o
SameCall plan (Ended p) (Ended o) = Replied plan p o
SameCall plan (Falls t p) (Falls u o) = (t ≡ u) × FellAlike plan p o
SameCall plan (Waits op s p) (Waits oq u o) = (op ≡ oq) × (s ≡ u) × Agrees plan p o
SameCall plan (Asks q s p) (Asks r u o) = (q ≡ r) × (s ≡ u) × Agrees plan p o
SameCall plan _ _ = ⊥

-- ---- a session

-- A call up to a number of blocks, in a world that answers it. Where it doesn't come to its end it is undone, as a death or a throw is.
pub record Attempt (W : Type 0) : Type 0 where
  pub method : ℕ
  pub args : List Value
  pub blocks : ℕ
  pub world : W

pub record Both : Type 0 where
  pub app : List Object
  pub db : List Object

abbrev pub pair_kept : {Q W : Type 0} → Plan → Both → Step Q (Pair W) → Both
pair_kept plan both (Ended p) = record { app = p.near.heap; db = committed plan p.near p.far }
pair_kept plan both _ = both

abbrev pub one_kept : {Q W : Type 0} → List Object → Step Q (One W) → List Object
one_kept heap (Ended o) = o.machine.heap
one_kept heap _ = heap

abbrev pub pair_session : {Q W : Type 0} → Plan → Ask Q W → List (Attempt W) → Both → Both
pair_session plan ask [] both = both
pair_session plan ask (a ∷ attempts) both = pair_session plan ask attempts (pair_kept plan both (pair_run plan ask a.blocks (pair_begun plan a.method a.args both.app both.db a.world)))

abbrev pub one_session : {Q W : Type 0} → Plan → Ask Q W → List (Attempt W) → List Object → List Object
one_session plan ask [] heap = heap
one_session plan ask (a ∷ attempts) heap = one_session plan ask attempts (one_kept heap (one_run plan ask a.blocks (one_begun plan a.method a.args heap a.world)))

abbrev pub GoodSession : {Q W : Type 0} → Plan → Ask Q W → List (Attempt W) → List Object → Type 0
GoodSession plan ask [] heap = Unit {0}
GoodSession plan ask (a ∷ attempts) heap = GoodRun plan ask a.blocks (one_begun plan a.method a.args heap a.world) × GoodSession plan ask attempts (one_kept heap (one_run plan ask a.blocks (one_begun plan a.method a.args heap a.world)))

-- ---- the theorems

-- two ends with one heap are at rest under every plan
abbrev pub NewRests : Type 0
NewRests = (plan : Plan) (heap : List Object) → Rests plan heap heap heap

abbrev pub BeginAgrees : Type 0 → Type 0
BeginAgrees W = (plan : Plan) (method : ℕ) (args : List Value) (app db one : List Object) (world : W) → Rests plan app db one → Agrees plan (pair_begun plan method args app db world) (one_begun plan method args one world)

-- a call from rest does what it does on the one heap, and its commit leaves both ends at rest
abbrev pub CallAgrees : Type 0 → Type 0 → Type 0
CallAgrees Q W = (plan : Plan) (ask : Ask Q W) (method : ℕ) (args : List Value) (n : ℕ) (app db one : List Object) (world : W) → Rests plan app db one → GoodRun plan ask n (one_begun plan method args one world)
    → SameCall plan (pair_run plan ask n (pair_begun plan method args app db world)) (one_run plan ask n (one_begun plan method args one world))

-- and so do all calls of a session, of which some are undone
abbrev pub SessionAgrees : Type 0 → Type 0 → Type 0
SessionAgrees Q W = (plan : Plan) (ask : Ask Q W) (attempts : List (Attempt W)) (both : Both) (one : List Object) → Rests plan both.app both.db one → GoodSession plan ask attempts one
    → Rests plan (pair_session plan ask attempts both).app (pair_session plan ask attempts both).db (one_session plan ask attempts one)
