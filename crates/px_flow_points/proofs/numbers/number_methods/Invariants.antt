use Rattle.std.proofs.Common.{◌≡◌, ◌++◌, drop}
use Rattle.px_flow_points.specs.Numbers.{firsts, behind, method_sizes}
use Rattle.px_flow_points.proofs.numbers.number_methods.Given as goal

abbrev pub invariant-loop-method : goal.invariant-loop-method
invariant-loop-method l = record {
  of : l.bases.items ++ firsts l.next (method_sizes (drop l.method-index l.methods)) ≡ firsts 0 (method_sizes l.methods);
  behind : behind l.next (method_sizes (drop l.method-index l.methods)) ≡ behind 0 (method_sizes l.methods);
}
