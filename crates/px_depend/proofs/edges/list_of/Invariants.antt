use Rattle.std.proofs.Common.{◌≡◌, ◌++◌}
use Rattle.px_depend.proofs.edges.list_of.Given as goal

abbrev pub invariant-loop-edge : goal.invariant-loop-edge
invariant-loop-edge l = l.list.items ++ l.edge-iterator ≡ l.fn.set.keys
