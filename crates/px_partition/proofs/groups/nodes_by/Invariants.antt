use Rattle.std.proofs.Common.{◌≡◌, ◌+◌, ◌++◌, ℕ, [], drop, nat_eq, unwrap_or}
use Rattle.std.specs.HashMap.{get}
use Rattle.px_partition.specs.Graphs.{nodes_in}
use Rattle.px_partition.proofs.groups.nodes_by.Given as goal

abbrev pub invariant-loop-node : goal.invariant-loop-node
invariant-loop-node l = record {
  counted : l.number ≡ l.node-index;
  grouped : (method : ℕ) → unwrap_or (get nat_eq l.groups method) [] ++ nodes_in method (l.node-index + 1) (drop l.node-index l.nodes) ≡ nodes_in method 1 l.nodes;
}
