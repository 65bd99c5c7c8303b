use Rattle.std.proofs.Common.{◌≡◌, ◌+◌, ◌++◌, drop}
use Rattle.px_flow_points.specs.ByNode.{methods_touches}
use Rattle.px_flow_points.proofs.touched.touches.Given as goal

abbrev pub invariant-loop-method : goal.invariant-loop-method
invariant-loop-method l = record {
  number : l.number ≡ l.method-index + 1;
  items : l.list.items ++ methods_touches l.sets l.access l.number (drop l.method-index l.methods) ≡ methods_touches l.sets l.access 1 l.methods;
}
