use Rattle.std.proofs.Common.{◌≡◌, ◌++◌, drop}
use Rattle.px_depend.specs.Uses.{common}
use Rattle.px_depend.proofs.summary.common.Given as goal

abbrev pub invariant-loop-slot : goal.invariant-loop-slot
invariant-loop-slot l = l.slots.items ++ common (drop l.slot-index l.left) l.right ≡ common l.left l.right
