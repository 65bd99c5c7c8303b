use Rattle.std.proofs.Common.{List, ◌∷◌, pos, ap, ◌∙◌}
use Rattle.px_value.specs.declared.value.Value.{Value}
use Rattle.px_value.specs.declared.value.Value.TheVariants.{Int}
use Rattle.px_plain.specs.View.{shared_of}
use Rattle.px_plain.proofs.Made.{rows_made}
use Rattle.px_plain.proofs.Steps.{same_end}
use Rattle.px_plain.proofs.machine.Machine.made_rows.Goals as goal

pub returns-in_ok-cells-in-Rows-clause-ends : goal.returns-in_ok-cells-in-Rows-clause-ends
returns-in_ok-cells-in-Rows-clause-ends c =
    let all = c.in_ok-cells-in-Rows.ensures ∙ ap (λ (xs : List Value). Int (pos 0) ∷ xs) c.as_slice.ensures in
    same_end _ _ _ _ (rows_made c.args.number c.args.site _ c.args.answer.now _ _ (shared_of c.args.self.now) c.in-Rows.is all) c.allocate.ensures.ends
