use Rattle.std.proofs.Common.{◌≡◌, ◌+◌, ◌++◌, drop}
use Rattle.px_flow_points.specs.Constraints.{methods_constraints}
use Rattle.px_flow_points.proofs.collect.constraints.Given as goal

abbrev pub invariant-loop-method : goal.invariant-loop-method
invariant-loop-method l = record {
  number : l.number ≡ l.method-index + 1;
  items : l.list.items ++ methods_constraints l.numbers l.number (drop l.method-index l.methods) ≡ methods_constraints l.numbers 1 l.methods;
}
