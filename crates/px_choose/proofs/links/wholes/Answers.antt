use Rattle.std.proofs.Common.{◌≡◌, length, ap, arith}
use Rattle.px_graph.specs.Costs.{whole}
use Rattle.px_choose.proofs.Totals.{list_whole_at, wholes_end}
use Rattle.px_choose.proofs.links.wholes.Goals as goal

pub whole-requires : goal.whole-requires
whole-requires c =
    let a = list_whole_at c.args.edges.now (length c.args.lists.now) c.args.lists.now c.loop-list.list-index c.list-item.result c.requires.lists c.loop-list-test.true c.list-item.is in
    let b : whole c.as_slice.result.now ≡ whole c.list-item.result = ap whole c.as_slice.ensures in
    let d = c.requires.weights in
    omega (arith, a, b, d)

pub returns : goal.returns
returns c = wholes_end c.args.edges.now c.args.lists.now c.loop-list.list-index c.loop-list.sums.items c.requires.lists c.loop-list-test.false c.loop-list.invariant
