use Rattle.std.proofs.Common.{arith, refl, sym, ◌∙◌}
use Rattle.px_choose.specs.Placements.{flipped}
use Rattle.px_choose.proofs.Scans.{flip_found, flip_next}
use Rattle.px_choose.proofs.flips.better_flip.Goals as goal

pub returns-then-is_better_flip : goal.returns-then-is_better_flip
returns-then-is_better_flip c = flip_found c.args.graph.now c.args.budget c.args.pins.now c.args.state.now.sides.items c.loop-pin.node c.loop-pin._pin-index (flipped c.args.pins.now c.loop-pin.node c.args.state.now.sides.items) c.loop-pin-test.true c.loop-pin.invariant.rest refl (sym c.is_better_flip.ensures ∙ c.if-is_better_flip.true)

pub loop-pin-preserved : goal.loop-pin-preserved
loop-pin-preserved c = record {
  number = let a = c.loop-pin.invariant.number in omega (arith, a);
  rest = flip_next c.args.graph.now c.args.budget c.args.pins.now c.args.state.now.sides.items c.loop-pin.node c.loop-pin._pin-index (flipped c.args.pins.now c.loop-pin.node c.args.state.now.sides.items) c.loop-pin-test.true c.loop-pin.invariant.rest refl (sym c.is_better_flip.ensures ∙ c.if-is_better_flip.false);
}
