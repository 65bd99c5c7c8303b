use Rattle.std.proofs.Common.{◌≡◌, List, length, ap, arith}
use Rattle.px_graph.specs.declared.edge.Edge.{Edge}
use Rattle.px_graph.specs.Costs.{cost_of}
use Rattle.px_graph.proofs.Sums.{cost_le}
use Rattle.px_choose.proofs.Totals.{list_whole_at, cuts_end}
use Rattle.px_choose.proofs.state.cuts.Goals as goal

pub cost_of-requires : goal.cost_of-requires
cost_of-requires c =
    let a = list_whole_at c.args.edges.now (length c.args.lists.now) c.args.lists.now c.loop-list.list-index c.list-item.result c.requires.lists c.loop-list-test.true c.list-item.is in
    let b : cost_of c.as_slice.result.now c.args.sides.now ≡ cost_of c.list-item.result c.args.sides.now = ap (λ (es : List Edge). cost_of es c.args.sides.now) c.as_slice.ensures in
    let e = cost_le c.list-item.result c.args.sides.now in
    let d = c.requires.weights in
    omega (arith, a, b, d, e)

pub returns : goal.returns
returns c = cuts_end c.args.edges.now c.args.sides.now c.args.lists.now c.loop-list.list-index c.loop-list.sums.items c.requires.lists c.loop-list-test.false c.loop-list.invariant
