use Rattle.std.proofs.Common.{◌≡◌, ◌+◌, ◌++◌, drop}
use Rattle.px_partition.specs.Graphs.{groups}
use Rattle.px_partition.proofs.groups.groups.Given as goal

abbrev pub invariant-loop-method : goal.invariant-loop-method
invariant-loop-method l = record {
  counted : l.method ≡ l._method-index;
  same : l.groups ++ groups l.nodes (l._method-index + 1) (drop l._method-index l.methods) ≡ groups l.nodes 1 l.methods;
}
