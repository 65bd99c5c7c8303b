-- Both ends of a session while a call runs, as contracts see them.
use Rattle.std.specs.Prelude.{◌≡◌, ℕ, ◌+◌, ◌-◌, ◌^◌, min, ◌⊎◌, true, List, length, Option, Some, None}
use Rattle.px_value.specs.declared.thrown.Thrown.{Thrown}
use Rattle.px_code.specs.declared.side.Side.{Side}
use Rattle.px_code.specs.declared.side.Side.TheVariants.{App, Db}
use Rattle.px_code.specs.declared.block.Block.{Block}
use Rattle.px_code.specs.declared.plan.Plan.{Plan}
use Rattle.px_code.specs.Places.{other}
use Rattle.px_code.specs.Fits.{Fits}
use Rattle.px_code.specs.Law.{MachineFits}
use Rattle.px_code.specs.Machine.{Machine, block_at}
use Rattle.px_code.specs.Sound.{Ending, Finished, Fell}
use Rattle.px_half.specs.End.{End, IsSameEnd, plan_at}
use Rattle.px_half.specs.Messages.{IsTellable, told}
use Rattle.px_pair.specs.declared.ends.Ends.{Ends}
use Rattle.px_pair.specs.Agree.{Agree}
use Rattle.px_pair.specs.Crossing.{CanTell}
use Rattle.px_pair.specs.Telling.{IsHeard}
use Rattle.px_pair.specs.Servable.{IsServable}
use Rattle.px_pair.specs.Story.{Happening, Talks, moves_of, bytes_of}

abbrev pub end_at : Side → Ends → End
end_at App s = s.app
end_at Db s = s.db

-- the end with control, and the other one
abbrev pub near : Ends → End
near s = end_at s.at s

abbrev pub far : Ends → End
far s = end_at (other s.at) s

abbrev pub with_end : Side → End → Ends → Ends
with_end App e s = record s { app = e }
with_end Db e s = record s { db = e }

-- whatever they did, they are the same ends, and what stood at the last close is known
pub record AreSameEnds (old new : Ends) : Type 0 where
  pub app : IsSameEnd old.app new.app
  pub db : IsSameEnd old.db new.db
  pub app_closed : new.app.closed ≡ old.app.closed
  pub db_closed : new.db.closed ≡ old.db.closed

-- ---- counts, which stay at the end of their types

abbrev pub moves_within : ℕ → ℕ
moves_within n = min n (2 ^ 32 - 1)

abbrev pub bytes_within : ℕ → ℕ
bytes_within n = min n (2 ^ 64 - 1)

-- ---- control goes over

pub record HasCrossed (old new : Ends) : Type 0 where
  pub long : ℕ
  pub heard : IsHeard (near old) (far old) (near new) long
  pub left : far new ≡ told (near old)
  pub at : new.at ≡ other old.at
  pub moves : new.moves ≡ moves_within (old.moves + 1)
  pub bytes : new.bytes ≡ bytes_within (old.bytes + long)

-- ---- a call that runs

abbrev pub IsThere : Plan → ℕ → Type 0
IsThere plan n = (n ≡ 0) ⊎ ((b : Block) × (block_at plan.blocks.blocks n ≡ Some b))

-- A call runs at two ends with a plan, and one of them has control: both together are as one machine.
pub record IsRunning (plan : Plan) (one : Machine) (side : Side) (e f : End) : Type 0 where
  pub servable : IsServable plan
  pub near_plan : plan_at e ≡ Some plan
  pub far_plan : plan_at f ≡ Some plan
  pub near_side : e.side ≡ side
  pub far_side : f.side ≡ other side
  pub near_open : e.in_call ≡ true
  pub far_open : f.in_call ≡ true
  pub near_knows : e.known ≡ length e.machine.heap
  pub turns : e.turns ≡ 0
  pub agree : Agree plan side e.machine f.machine one
  pub can_tell : CanTell plan e.machine f.machine
  pub fits : Fits plan.code one.heap
  pub there : IsThere plan e.block
  pub block_fits : (b : Block) → block_at plan.blocks.blocks e.block ≡ Some b → MachineFits plan.code b.method one
  pub near_tellable : IsTellable e.machine
  pub far_tellable : IsTellable f.machine

abbrev pub CanTalk : Ends → Type 0
CanTalk s = (plan : Plan) × (one : Machine) × IsRunning plan one s.at (near s) (far s)

-- nothing is counted yet
pub record IsUncounted (s : Ends) : Type 0 where
  pub moves : s.moves ≡ 0
  pub bytes : s.bytes ≡ 0

abbrev pub ending_of : Option Thrown → Ending
ending_of None = Finished
ending_of (Some t) = Fell t

-- the ends have talked, from where they were
pub record HaveTalked (old new : Ends) (ending : Ending) : Type 0 where
  pub story : List Happening
  pub talks : (plan : Plan) → plan_at (near old) ≡ Some plan → Talks plan old.at (near old).machine (far old).machine (near old).block story ending new.at (near new).machine (far new).machine
  pub moves : new.moves ≡ moves_within (moves_of story)
  pub bytes : new.bytes ≡ bytes_within (bytes_of story)

-- a call has ended at APP, and can be committed
pub record HasFinished (s : Ends) : Type 0 where
  pub running : CanTalk s
  pub at : s.at ≡ App
  pub block : s.app.block ≡ 0

abbrev pub IfFinished : Option Thrown → Ends → Type 0
IfFinished None s = HasFinished s
IfFinished (Some t) s = Unit {0}
