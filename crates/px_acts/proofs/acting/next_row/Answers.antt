use Rattle.px_effects.specs.Cells.{first_cells}
use Rattle.px_effects.specs.Rows.{next}
use Rattle.px_normal.specs.First.{statements_of}
use Rattle.px_acts.proofs.WithOperands.{one}
use Rattle.px_acts.proofs.acting.next_row.Goals as goal

pub returns-clause-acts : goal.returns-clause-acts
returns-clause-acts c fresh =
    one (first_cells fresh) c.args.store.now.heap c.next.new.store.heap c.written.result (next (statements_of c.args.code.now)) _ c.in_ok-of.of c.in_ok-of.ensures
    (c.written.ensures.acts _ _ (c.next.ensures.acted fresh))
