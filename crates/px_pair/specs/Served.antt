-- What two ends serve: the story of a call at two ends is that of a call on the one heap, and the call does what its code does.
use Rattle.std.specs.Prelude.{◌≡◌, ℕ, true, List, [], ◌∷◌, ◌++◌, length, Option, Some, is_some, unwrap_or}
use Rattle.px_value.specs.declared.value.Value.{Value}
use Rattle.px_value.specs.declared.value.Value.TheVariants.{Null}
use Rattle.px_value.specs.declared.object.Object.{Object}
use Rattle.px_value.specs.declared.thrown.Thrown.{Thrown}
use Rattle.px_value.specs.Outcome.{Gives, Throws}
use Rattle.px_code.specs.declared.side.Side.{Side}
use Rattle.px_code.specs.declared.side.Side.TheVariants.{App, Db}
use Rattle.px_code.specs.declared.block.Block.{Block}
use Rattle.px_code.specs.declared.plan.Plan.{Plan}
use Rattle.px_code.specs.Fits.{Fits}
use Rattle.px_code.specs.Law.{MachineFits}
use Rattle.px_code.specs.CodeRun.{Traced}
use Rattle.px_code.specs.Stale.{Event, NoneStale}
use Rattle.px_code.specs.Machine.{Machine, slots_at, value_in, block_at}
use Rattle.px_code.specs.Sound.{Ending, Finished, Fell, run_of, IsInput, entered, first_block}
use Rattle.px_wire.specs.declared.updates.Updates.{Updates}
use Rattle.px_wire.specs.declared.message.Message.TheVariants.{Commit}
use Rattle.px_half.specs.Messages.{AreUpdates}
use Rattle.px_half.specs.Absorbed.{with_updates}
use Rattle.px_pair.specs.Agree.{Agree}
use Rattle.px_pair.specs.Crossing.{FramesLike, bare}
use Rattle.px_pair.specs.Fresh.{IsFresh}
use Rattle.px_pair.specs.Sessions.{Rest, attending}
use Rattle.px_pair.specs.Story.{Happening, Sent, Told, Talks, ran_in, events_after}
use Rattle.px_pair.specs.Servable.{IsServable}

-- ---- one story

-- machines alike, but for the heap
pub record SameButHeap (m n : Machine) : Type 0 where
  pub frames : m.frames ≡ n.frames
  pub base : m.base ≡ n.base
  pub marks : m.marks ≡ n.marks
  pub named : m.named ≡ n.named

-- the same happens on the one heap, and both ends have it where the story ends
pub record IsTold (plan : Plan) (side : Side) (one : Machine) (n : ℕ) (story : List Happening) (ending : Ending) (last : Side) (near far : Machine) : Type 0 where
  pub machine : Machine
  pub told : Told plan side one n story ending machine
  pub agree : Agree plan last near far machine
  pub alike : SameButHeap near machine

-- What happens at two ends, with every message between them, is what happens on the one heap: which values an end has doesn't show in it.
abbrev pub TalksAreTold : Type 0
TalksAreTold = (plan : Plan) → IsServable plan
    → (side last : Side) (near far last_near last_far : Machine) (n : ℕ) (story : List Happening) (ending : Ending) → Talks plan side near far n story ending last last_near last_far
    → (one : Machine) → Agree plan side near far one → SameButHeap near one → FramesLike near.frames (bare plan near far) → Fits plan.code one.heap → ((b : Block) → block_at plan.blocks.blocks n ≡ Some b → MachineFits plan.code b.method one)
    → IsTold plan side one n story ending last last_near last_far

-- ---- a whole call

-- A call that ended, and its commit with these updates, where both ends had this heap. `near` and `far` are the ends where the call ends.
pub record IsFinishedCall (plan : Plan) (one : List Object) (method : ℕ) (args : List Value) (story : List Happening) (last : Side) (near far : Machine) (u : Updates) : Type 0 where
  pub last_is : last ≡ App
  -- the code gives this value, and leaves this heap
  pub value : Option Value
  pub state : Traced (Unit {0})
  pub gives : run_of plan.code one method args ≡ Gives value state
  pub fits : Fits plan.code state.shared.heap
  -- the same statements ran, and APP has the reply
  pub ran_is : ran_in story ≡ state.ran
  pub reply_is : value_in (slots_at near.frames 0) 0 ≡ unwrap_or value Null
  -- the same happens on the one heap, with the same commit
  pub machine : Machine
  pub told : Told plan App (entered plan.code one method args) (first_block plan method) story Finished machine
  pub heap_is : machine.heap ≡ state.shared.heap
  pub updates : AreUpdates (Some plan) (length machine.heap) machine u
  -- DB takes the commit in, and then both ends have the heap that the code leaves
  pub taken : is_some (with_updates plan u far) ≡ true
  pub rest : (new : Machine) → with_updates plan u far ≡ Some new → Rest plan near.heap new.heap state.shared.heap
  -- no read was stale, and no copy is old: the next call may begin
  pub fresh : (events : List Event) → IsFresh plan App one [] events → IsFresh plan App state.shared.heap [] (events_after (story ++ Sent Db (Commit u) ∷ []) events)

-- a call that threw, where both ends had this heap
pub record IsThrownCall (plan : Plan) (one : List Object) (method : ℕ) (args : List Value) (story : List Happening) (t : Thrown) : Type 0 where
  -- the code throws the same
  pub state : Traced (Unit {0})
  pub throws : run_of plan.code one method args ≡ Throws t state
  pub ran_is : ran_in story ≡ state.ran
  -- the same happens on the one heap
  pub machine : Machine
  pub told : Told plan App (entered plan.code one method args) (first_block plan method) story (Fell t) machine
  pub heap_is : machine.heap ≡ state.shared.heap
  -- no read was stale
  pub none_stale : (events : List Event) → IsFresh plan App one [] events → NoneStale (events_after story events)

abbrev pub IsServedCall : Plan → List Object → ℕ → List Value → List Happening → Ending → Side → Machine → Machine → Type 0
IsServedCall plan one method args story Finished last near far = (u : Updates) → AreUpdates (Some plan) (length near.heap) near u → IsFinishedCall plan one method args story last near far u
IsServedCall plan one method args story (Fell t) last near far = IsThrownCall plan one method args story t

-- From two ends that have one heap, a call of an entry does what its code does on that heap, wherever its blocks run and however control goes over.
abbrev pub CallsAreServed : Type 0
CallsAreServed = (plan : Plan) → IsServable plan → (app db one : List Object) → Rest plan app db one → (method : ℕ) (args : List Value) → IsInput plan.code one method args
    → (story : List Happening) (ending : Ending) (last : Side) (near far : Machine) → Talks plan App (entered plan.code app method args) (attending db) (first_block plan method) story ending last near far
    → IsServedCall plan one method args story ending last near far
