use Rattle.std.proofs.Common.{◌≡◌, List, ap, arith}
use Rattle.px_graph.specs.declared.edge.Edge.{Edge}
use Rattle.px_graph.specs.Costs.{cost_of}
use Rattle.px_choose.proofs.sums.cost.Goals as goal

pub cost_of-requires : goal.cost_of-requires
cost_of-requires c =
    let a : cost_of c.as_slice.result.now c.args.sides.now ≡ cost_of c.args.graph.now.edges c.args.sides.now = ap (λ (es : List Edge). cost_of es c.args.sides.now) c.as_slice.ensures in
    let b = c.requires.costs c.args.sides.now in
    omega (arith, a, b)
