use Rattle.std.proofs.Common.{List, map, Some, ap, ◌∙◌}
use Rattle.px_code.specs.declared.side.Side.{Side}
use Rattle.px_job.specs.Placing.{sides_or_app}
use Rattle.px_job.proofs.PlacingMore.{all_set}
use Rattle.px_job.proofs.placing.sides_of.Goals as goal

pub returns-clause-total : goal.returns-clause-total
returns-clause-total c all =
    ap (λ (sides : List Side). map Some sides) (c.in_ok-sides.ensures ∙ ap sides_or_app c.as_slice.ensures)
    ∙ all_set c.args.part.now.sides.sides all
