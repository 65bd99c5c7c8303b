use Rattle.std.proofs.Common.{◌≡◌, ◌≤◌, ◌*◌, ◌^◌, ◌++◌, drop, map}
use Rattle.px_graph.specs.Loads.{total}
use Rattle.px_partition.specs.Graphs.{load_of}
use Rattle.px_partition.proofs.loads.loads.Given as goal

abbrev pub invariant-loop-node : goal.invariant-loop-node
invariant-loop-node l = record {
  same : l.loads ++ map (load_of l.counts) (drop l.node-index l.nodes) ≡ map (load_of l.counts) l.nodes;
  sum : total l.loads ≤ l.node-index * 2 ^ 32;
}
