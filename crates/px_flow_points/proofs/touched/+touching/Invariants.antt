use Rattle.std.proofs.Common.{◌≡◌, ◌++◌, drop}
use Rattle.px_flow_points.specs.ByNode.{trees_touches}
use Rattle.px_flow_points.proofs.touched.+touching.Given as goal

abbrev pub invariant-trees-loop-item : goal.invariant-trees-loop-item
invariant-trees-loop-item l = l.into.items ++ trees_touches l.sets l.access l.method (drop l.item-index l.list) ≡ l.fn.into.items ++ trees_touches l.sets l.access l.method l.list
