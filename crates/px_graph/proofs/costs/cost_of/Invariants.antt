use Rattle.std.proofs.Common.{◌≡◌, ◌+◌, drop}
use Rattle.px_graph.specs.Costs.{cost_of}
use Rattle.px_graph.proofs.costs.cost_of.Given as goal

abbrev pub invariant-loop-edge : goal.invariant-loop-edge
invariant-loop-edge l = l.sum + cost_of (drop l.edge-index l.edges) l.sides ≡ cost_of l.edges l.sides
