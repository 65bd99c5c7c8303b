use Rattle.std.proofs.Common.{◌≡◌, ap, arith}
use Rattle.px_graph.specs.Costs.{whole}
use Rattle.px_graph.proofs.Sums.{cost_le}
use Rattle.px_graph.proofs.graph.Graph.cost.Goals as goal

pub cost_of-requires : goal.cost_of-requires
cost_of-requires c =
    let a = cost_le c.as_slice.result.now c.as_slice-2.result.now in
    let b : whole c.as_slice.result.now ≡ whole c.args.self.now.edges = ap whole c.as_slice.ensures in
    let d = c.requires in
    omega (arith, a, b, d)
