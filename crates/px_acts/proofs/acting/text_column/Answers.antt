use Rattle.px_effects.specs.Cells.{first_cells}
use Rattle.px_effects.specs.Rows.{get_column, text_in}
use Rattle.px_normal.specs.First.{statements_of}
use Rattle.px_acts.proofs.WithOperands.{two}
use Rattle.px_acts.proofs.acting.text_column.Goals as goal

pub returns : goal.returns
returns c fresh =
    two (first_cells fresh) c.args.store.now.heap c.args.store.now.heap c.ended.result (get_column (statements_of c.args.code.now) text_in) _ _ c.in_ok-of.of c.in_ok-column.column c.in_ok-of.ensures c.in_ok-column.ensures
    (c.ended.ensures.acts _ _ (c.get_string.ensures fresh))
