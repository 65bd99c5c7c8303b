use Rattle.std.proofs.Common.{◌≡◌, ◌++◌, drop}
use Rattle.px_depend.specs.Places.{places_at}
use Rattle.px_depend.specs.Uses.{all_used}
use Rattle.px_depend.proofs.places.add_all.Given as goal

abbrev pub invariant-loop-operand : goal.invariant-loop-operand
invariant-loop-operand l = l.into.items ++ places_at l.node (all_used (drop l.operand-index l.operands)) ≡ l.fn.into.items ++ places_at l.node (all_used l.operands)
