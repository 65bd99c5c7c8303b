use Rattle.std.proofs.Common.{◌≡◌, ◌++◌}
use Rattle.px_flow_points.proofs.pairs.list_of.Given as goal

abbrev pub invariant-loop-touch : goal.invariant-loop-touch
invariant-loop-touch l = l.all.items ++ l.touch-iterator ≡ l.fn.set.keys
