-- The lock book of a history.
use Rattle.std.specs.Prelude.{◌≡◌, ◌⊎◌, ℕ, true, List, [], ◌∷◌}
use Rattle.px_locks.specs.declared.want.Want.{Want}
use Rattle.px_locks.specs.declared.want.Grant.{Grant}
use Rattle.px_locks.specs.Locks.{IsIn}
use Rattle.px_history.specs.declared.event.Event.{Event}
use Rattle.px_history.specs.Attempts.{is_active, stamp_of}
use Rattle.px_history.specs.Locking.{LockForm, held}

-- it stands in the list
abbrev pub IsWanted : Want → List Want → Type 0
IsWanted w [] = ⊥
IsWanted w (v ∷ vs) = (v ≡ w) ⊎ IsWanted w vs

-- the grants are what the sessions of the history hold, with their stamps
pub record IsBooked (form : LockForm) (grants : List Grant) (h : List Event) : Type 0 where
  pub held_by : (g : Grant) → IsIn g grants → IsWanted g.want (held form g.session h)
  pub active : (g : Grant) → IsIn g grants → is_active g.session h ≡ true
  pub stamped : (g : Grant) → IsIn g grants → g.stamp ≡ stamp_of g.session h
  pub booked : (s : ℕ) (w : Want) → IsWanted w (held form s h) → IsIn (record { session = s; stamp = stamp_of s h; want = w }) grants
