use Rattle.std.proofs.Common.{◌≡◌, ◌+◌, drop}
use Rattle.px_graph.specs.Costs.{whole}
use Rattle.px_choose.proofs.links.whole.Given as goal

abbrev pub invariant-loop-edge : goal.invariant-loop-edge
invariant-loop-edge l = l.sum + whole (drop l.edge-index l.edges) ≡ whole l.edges
