use Rattle.std.proofs.Common.{◌≡◌, ◌+◌, ◌++◌, drop}
use Rattle.px_flow_points.specs.Constraints.{passed}
use Rattle.px_flow_points.proofs.collect.pass.Given as goal

abbrev pub invariant-loop-arg : goal.invariant-loop-arg
invariant-loop-arg l = record {
  slot : l.slot ≡ l.arg-index + 1;
  items : l.into.items ++ passed l.numbers l.method l.callee l.slot (drop l.arg-index l.args) ≡ l.fn.into.items ++ passed l.numbers l.method l.callee 1 l.args;
}
