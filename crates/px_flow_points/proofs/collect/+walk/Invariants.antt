use Rattle.std.proofs.Common.{◌≡◌, ◌++◌, drop}
use Rattle.px_flow_points.specs.Constraints.{trees_constraints}
use Rattle.px_flow_points.proofs.collect.+walk.Given as goal

abbrev pub invariant-trees-loop-item : goal.invariant-trees-loop-item
invariant-trees-loop-item l = l.into.items ++ trees_constraints l.numbers l.method (drop l.item-index l.list) ≡ l.fn.into.items ++ trees_constraints l.numbers l.method l.list
