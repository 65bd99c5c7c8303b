use Rattle.std.proofs.Common.{◌≡◌, ◌+◌, ◌<◌, ◌^◌, drop}
use Rattle.px_graph.specs.Costs.{whole}
use Rattle.px_graph.proofs.problem.weights_fit.Given as goal

abbrev pub invariant-loop-edge : goal.invariant-loop-edge
invariant-loop-edge l = record {
  sum : l.sum + whole (drop l.edge-index l.edges) ≡ whole l.edges;
  below : l.sum < 2 ^ 127;
}
