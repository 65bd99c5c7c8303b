use Rattle.std.proofs.Common.{◌-◌, List, ap, ◌∙◌, take, arith}
use Rattle.px_code.specs.declared.side.Side.{Side}
use Rattle.px_choose.specs.Gains.{back}
use Rattle.px_choose.proofs.Moving.{unturn}
use Rattle.px_choose.proofs.moves.unshift.Goals as goal

pub turns-preserved : goal.turns-preserved
turns-preserved c = record {
  below = let a = c.turns.invariant.below in omega (arith, a);
  kept = c.turn.ensures.kept;
  sides = ap (λ (r : List Side). back c.args.pins.now (take (c.turns.count - 1) c.args.turned.now) r) c.turn.ensures.sides ∙ unturn c.args.pins.now c.args.turned.now c.turns.count c.turns.state.sides.items c.turns-test.true c.turns.invariant.below ∙ c.turns.invariant.sides;
}
