use Rattle.std.proofs.Common.{ap, sym, ◌∙◌}
use Rattle.px_code.specs.declared.side.Side.{Side}
use Rattle.px_code.specs.Places.{same_side}
use Rattle.px_choose.proofs.Moving.{goes_law}
use Rattle.px_choose.proofs.moves.goes.Goals as goal

pub returns-then-is_free : goal.returns-then-is_free
returns-then-is_free c = goes_law c.args.pins.now c.args.node c.args.side c.args.sides.now c.same_side.result (sym c.is_free.ensures ∙ c.if-is_free.true) (ap (λ (s : Side). same_side s c.args.side) (sym c.side_at.ensures) ∙ sym c.same_side.ensures)
