use Rattle.std.proofs.Common.{List, sym, ap, subst, ◌∙◌}
use Rattle.px_value.specs.declared.value.Value.{Value}
use Rattle.px_value.specs.declared.answer.Answer.{Answer}
use Rattle.px_value.specs.declared.answer.Answer.TheVariants.{Rows}
use Rattle.px_effects.specs.Act.{acted}
use Rattle.px_effects.specs.Cells.{first_cells}
use Rattle.px_effects.specs.Rows.{make_rows}
use Rattle.px_acts.specs.Ends.{Makes}
use Rattle.px_acts.proofs.rows.make_rows.Goals as goal

pub returns-in-Rows-clause-acted : goal.returns-in-Rows-clause-acted
returns-in-Rows-clause-acted c fresh =
    let same = ap (λ (cells : List Value). Rows c.in-Rows.width cells) c.as_slice.ensures ∙ sym c.in-Rows.is in
    subst (λ (a : Answer). Makes (acted (first_cells fresh) (make_rows c.args.number c.args.site a) c.args.store.now.heap) c.rows_object.result c.rows_object.new.store.heap) same (c.rows_object.ensures.acted fresh c.in-Rows.width)
