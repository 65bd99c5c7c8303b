-- A pair of ends, as contracts see it, and what its type keeps.
use Rattle.std.specs.Prelude.{◌≡◌, ℕ, ◌+◌, false, List, [], length, Option, Some, None, slice_get}
use Rattle.px_value.specs.declared.value.Value.{Value}
use Rattle.px_value.specs.declared.object.Object.{Object}
use Rattle.px_value.specs.declared.thrown.Thrown.{Thrown}
use Rattle.px_code.specs.declared.side.Side.TheVariants.{App, Db}
use Rattle.px_code.specs.declared.plan.Plan.{Plan}
use Rattle.px_code.specs.declared.reply.Done.{Done}
use Rattle.px_code.specs.declared.reply.Reply.TheVariants as reply
use Rattle.px_code.specs.Fits.{Fits}
use Rattle.px_wire.specs.declared.updates.Updates.{Updates}
use Rattle.px_wire.specs.declared.message.Message.TheVariants.{Commit}
use Rattle.px_wire.specs.Fitting.{HasSpelling}
use Rattle.px_wire.specs.Spelling.{spelling}
use Rattle.px_half.specs.End.{End, plan_at, at_rest, new_end, begun, attended, reply_at, closed_now, rolled_back}
use Rattle.px_half.specs.Messages.{AreUpdates, IsTellableHeap, told}
use Rattle.px_half.specs.Absorbed.{with_updates}
use Rattle.px_pair.specs.declared.ends.Ends.{Ends}
use Rattle.px_pair.specs.declared.stage.Stage.{Stage}
use Rattle.px_pair.specs.declared.stage.Stage.TheVariants.{Idle, Open, Ended, Taken}
use Rattle.px_pair.specs.Sessions.{Rest}
use Rattle.px_pair.specs.Servable.{IsServable}
use Rattle.px_pair.specs.Callable.{IsCallable}
use Rattle.px_pair.specs.Ends.{bytes_within, CanTalk, IsUncounted, ending_of, HaveTalked, HasFinished}

-- both ends, and how far their call is
pub record State : Type 0 where
  pub ends : Ends
  pub stage : Stage

-- ---- what calls do

-- the first of some plans can be served
abbrev pub HasServable : List Plan → Type 0
HasServable plans = (plan : Plan) × (slice_get plans 0 ≡ Some plan) × IsServable plan

abbrev pub new_pair : List Plan → State
new_pair plans = record { ends = record { app = new_end App plans; db = new_end Db plans; at = App; moves = 0; bytes = 0 }; stage = Idle }

-- APP opens the call, and DB attends it
abbrev pub begun_pair : ℕ → List Value → State → State
begun_pair method args p = record { ends = record { app = begun method args p.ends.app; db = attended p.ends.db; at = App; moves = 0; bytes = 0 }; stage = Open }

abbrev pub CanCall : ℕ → List Value → State → Type 0
CanCall method args p = (plan : Plan) → plan_at p.ends.app ≡ Some plan → IsCallable plan.code method args

-- both ends have talked up to the end of the call
pub record HasEnded (old new : State) : Type 0 where
  pub thrown : Option Thrown
  pub stage : new.stage ≡ Ended thrown
  pub talked : HaveTalked old.ends new.ends (ending_of thrown)

-- an abort is a message of two bytes; nothing takes it in
abbrev pub abort_length : ℕ
abort_length = 2

-- the call is told, with its commit, which DB has taken in
pub record HasCommitted (old new : Ends) (done : Done) : Type 0 where
  pub commit : Updates
  pub are : AreUpdates (plan_at old.app) old.app.known old.app.machine commit
  pub knows : old.app.known ≡ length old.app.machine.heap
  pub has_spelling : HasSpelling (Commit commit)
  pub app : new.app ≡ told old.app
  pub db : (plan : Plan) → plan_at old.db ≡ Some plan → with_updates plan commit old.db.machine ≡ Some new.db.machine
  pub reply_is : done.reply ≡ reply_at old.app
  pub prints : done.prints ≡ []
  pub moves : done.moves ≡ old.moves
  pub bytes : done.bytes ≡ bytes_within (old.bytes + length (spelling (Commit commit)))
  pub part : done.part ≡ 0
  pub avg : done.avg ≡ 0
  pub rehome : done.rehome ≡ 0

-- a throw is told
pub record HasAborted (t : Thrown) (ends : Ends) (done : Done) : Type 0 where
  pub reply_is : done.reply ≡ reply.Threw t
  pub prints : done.prints ≡ []
  pub moves : done.moves ≡ ends.moves
  pub bytes : done.bytes ≡ bytes_within (ends.bytes + abort_length)
  pub part : done.part ≡ 0
  pub avg : done.avg ≡ 0
  pub rehome : done.rehome ≡ 0

abbrev pub TellsOf : Option Thrown → State → State → Done → Type 0
TellsOf None old new done = (new.stage ≡ Taken None) × HasCommitted old.ends new.ends done
TellsOf (Some t) old new done = (new.stage ≡ Taken (Some t)) × (new.ends ≡ old.ends) × HasAborted t old.ends done

abbrev pub Tells : State → State → Done → Type 0
Tells old new done = (thrown : Option Thrown) → old.stage ≡ Ended thrown → TellsOf thrown old new done

abbrev pub AtEnd : State → Type 0
AtEnd p = (thrown : Option Thrown) × (p.stage ≡ Ended thrown)

abbrev pub committed : State → State
committed p = record { ends = record p.ends { app = closed_now p.ends.app; db = closed_now p.ends.db; at = App }; stage = Idle }

abbrev pub taken_back : State → State
taken_back p = record { ends = record p.ends { app = rolled_back p.ends.app; db = rolled_back p.ends.db; at = App }; stage = Idle }

-- ---- what the type keeps

-- no call is open, and nothing was done since the last close
pub record IsAtRest (e : End) : Type 0 where
  pub machine : e.machine ≡ at_rest e.closed
  pub known : e.known ≡ length e.closed
  pub closed : e.in_call ≡ false

-- both ends together have one heap
pub record HaveOneHeap (plan : Plan) (app db : List Object) : Type 0 where
  pub one : List Object
  pub rest : Rest plan app db one
  pub fits : Fits plan.code one
  pub app_tellable : IsTellableHeap app
  pub db_tellable : IsTellableHeap db

-- Between two calls both ends are at rest; in a call they are as one machine, up to its end; and then they can close.
abbrev pub IsAtStage : Plan → Stage → Ends → Type 0
IsAtStage plan Idle s = IsAtRest s.app × IsAtRest s.db
IsAtStage plan Open s = CanTalk s × IsUncounted s
IsAtStage plan (Ended None) s = HasFinished s
IsAtStage plan (Taken None) s = HaveOneHeap plan s.app.machine.heap s.db.machine.heap
IsAtStage plan _ s = Unit {0}

pub record ArePlanned (plan : Plan) (s : Ends) : Type 0 where
  pub servable : IsServable plan
  pub app_plan : plan_at s.app ≡ Some plan
  pub db_plan : plan_at s.db ≡ Some plan
  pub app_side : s.app.side ≡ App
  pub db_side : s.db.side ≡ Db

pub record IsPair (p : State) : Type 0 where
  pub plan : Plan
  pub planned : ArePlanned plan p.ends
  -- what stood at the last close
  pub closed : HaveOneHeap plan p.ends.app.closed p.ends.db.closed
  pub now : IsAtStage plan p.stage p.ends
