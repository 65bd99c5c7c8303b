use Rattle.std.proofs.Common.{◌≡◌, ◌||◌, ℕ, drop, nat_eq}
use Rattle.std.specs.HashSet.{contains_by}
use Rattle.px_depend.specs.Uses.{has}
use Rattle.px_depend.proofs.summary.set_of.Given as goal

abbrev pub invariant-loop-slot : goal.invariant-loop-slot
invariant-loop-slot l = (k : ℕ) → (contains_by (nat_eq k) l.set || has k (drop l.slot-index l.slots)) ≡ has k l.slots
