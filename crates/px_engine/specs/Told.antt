-- What a session is told, and which event that adds. The latest event of h stands first; old and new are in their order.
use Rattle.std.specs.Prelude.{◌≡◌, ℕ, ◌+◌, ◌≤◌, ◌<◌, true, false, List, [], ◌∷◌, ◌++◌, reverse, Some}
use Rattle.px_value.specs.declared.statement.TableOp.{TableOp}
use Rattle.px_rows.specs.Tables.{Tables}
use Rattle.px_history.specs.declared.event.Event.{Event}
use Rattle.px_history.specs.declared.event.Event.TheVariants.{Begin, Op, Die}
use Rattle.px_history.specs.Attempts.{is_active, stamp_of, deaths, Killer, killer_of}
use Rattle.px_history.specs.Legal.{Calls, IsOverFor, MayBegin, MayDo, MustDie}
use Rattle.px_history.specs.Locking.{core_locks, is_in_conflict}
use Rattle.px_history.specs.Moves.{IsDue}
use Rattle.px_history.specs.State.{answer_of}
use Rattle.px_engine.specs.declared.engine.Begun.{Begun}
use Rattle.px_engine.specs.declared.engine.Begun.TheVariants.{Began, Waits as Holds}
use Rattle.px_engine.specs.declared.engine.Opped.{Opped}
use Rattle.px_engine.specs.declared.engine.Opped.TheVariants.{Did, Waits, Died}

-- ---- begin

-- the session is in no call, and this is its next one
pub record IsNextCall (job : Calls) (h : List Event) (s c : ℕ) : Type 0 where
  pub idle : is_active s h ≡ false
  pub due : IsDue job h s c

-- the call died last of a call of session x that isn't over
pub record IsHeldUp (job : Calls) (h : List Event) (s c x : ℕ) : Type 0 where
  pub killer : Killer
  pub is : killer_of s c h ≡ Some killer
  pub by : killer.session ≡ x
  pub open_yet : IsOverFor job.retries (Some killer) h → ⊥

-- the next attempt has begun, or nothing is added while the call is held up
abbrev pub IsBegun : Calls → Begun → ℕ → ℕ → List Event → List Event → Type 0
IsBegun job Began s c old new = (new ≡ old ++ Begin s c (deaths s c (reverse old) + 1) ∷ []) × MayBegin job (reverse old) s c (deaths s c (reverse old) + 1)
IsBegun job (Holds x) s c old new = (new ≡ old) × IsHeldUp job (reverse old) s c x

-- how many more events take no memory: that of an attempt's end is one more
abbrev pub BeginLeaves : Begun → ℕ → ℕ → Type 0
BeginLeaves Began old new = new ≡ old + 1
BeginLeaves (Holds x) old new = new ≡ old

-- ---- an operation

-- the holder is in the way, is the oldest that is, and isn't older than the session
pub record WaitsFor (h : List Event) (s : ℕ) (o : TableOp) (x : ℕ) : Type 0 where
  pub holds : is_in_conflict core_locks h s o x ≡ true
  pub least : (y : ℕ) → is_in_conflict core_locks h s o y ≡ true → stamp_of x h ≤ stamp_of y h
  pub younger : stamp_of s h < stamp_of x h

-- it is done and answered where it is free, it waits for a younger holder and adds nothing, and its attempt dies of an older one
abbrev pub IsOpped : Tables → ℕ → TableOp → Opped → List Event → List Event → Type 0
IsOpped T0 s o (Did answer) old new = (new ≡ old ++ Op s o ∷ []) × MayDo core_locks (reverse old) s o × (answer ≡ answer_of T0 s o (reverse old))
IsOpped T0 s o (Waits x back) old new = (new ≡ old) × (back ≡ o) × WaitsFor (reverse old) s o x
IsOpped T0 s o (Died x) old new = (new ≡ old ++ Die s o x ∷ []) × MustDie core_locks (reverse old) s o x

-- a death has used the room that was kept
abbrev pub OpLeaves : Opped → ℕ → ℕ → Type 0
OpLeaves (Did told) old new = new ≡ old
OpLeaves (Waits x back) old new = new ≡ old
OpLeaves (Died x) old new = new + 1 ≡ old
