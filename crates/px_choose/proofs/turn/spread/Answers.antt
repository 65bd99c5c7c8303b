use Rattle.std.proofs.Common.{refl, ap, ◌∙◌, List, ℕ, length, drop, subst, sym, ◌+◌}
use Rattle.px_code.specs.Places.{numbered}
use Rattle.px_choose.specs.Gains.{turned}
use Rattle.px_choose.proofs.Passing.{Passing}
use Rattle.px_choose.proofs.Spreading.{spread_init, room_more, room_less, spread_step, spread_size, spread_here}
use Rattle.px_choose.proofs.turn.spread.Goals as goal

pub loop-edge-init : goal.loop-edge-init
loop-edge-init c = record {
  size = refl;
  here = refl;
  passing = spread_init c.args._graph.now.edges c.args.node c.args.sides.now c.args.links.now.lists.items c.args.cuts.now.items c.at-edges.result.now c.requires.above c.requires.within c.requires.lists c.requires.cuts c.at-edges.ensures;
}

pub pass-requires-clause-more : goal.pass-requires-clause-more
pass-requires-clause-more c = room_more c.args._graph.now.edges c.args.node c.args.sides.now c.at-edges.result.now c.loop-edge.cuts.items c.loop-edge.edge-index c.requires.above c.requires.within c.loop-edge.invariant.passing c.loop-edge-test.true c.requires.weights

pub pass-requires-clause-less : goal.pass-requires-clause-less
pass-requires-clause-less c = room_less c.args._graph.now.edges c.args.node c.args.sides.now c.at-edges.result.now c.loop-edge.cuts.items c.loop-edge.edge-index c.requires.above c.requires.within c.loop-edge.invariant.passing c.loop-edge-test.true

pub loop-edge-preserved : goal.loop-edge-preserved
loop-edge-preserved c =
    let e = c.pass.ensures in
    record {
      size = ap (λ (r : List ℕ). length r) e ∙ spread_size c.args._graph.now.edges c.args.node c.args.sides.now c.at-edges.result.now c.loop-edge.cuts.items c.loop-edge.edge-index c.requires.above c.requires.within c.loop-edge.invariant.passing c.loop-edge-test.true ∙ c.loop-edge.invariant.size;
      here = ap (λ (r : List ℕ). numbered r c.args.node) e ∙ spread_here c.args._graph.now.edges c.args.node c.args.sides.now c.at-edges.result.now c.loop-edge.cuts.items c.loop-edge.edge-index c.requires.above c.requires.within c.loop-edge.invariant.passing c.loop-edge-test.true ∙ c.loop-edge.invariant.here;
      passing = subst (λ (r : List ℕ). Passing c.args._graph.now.edges c.args.node c.args.sides.now (turned c.args.node c.args.sides.now) (drop (c.loop-edge.edge-index + 1) c.at-edges.result.now) r) (sym e) (spread_step c.args._graph.now.edges c.args.node c.args.sides.now c.at-edges.result.now c.loop-edge.cuts.items c.loop-edge.edge-index c.requires.above c.requires.within c.loop-edge.invariant.passing c.loop-edge-test.true);
    }
