use Rattle.px_effects.specs.Cells.{first_cells, put_field}
use Rattle.px_acts.proofs.WithOperands.{two}
use Rattle.px_acts.proofs.acting.put.Goals as goal

pub returns-clause-acts : goal.returns-clause-acts
returns-clause-acts c fresh =
    two (first_cells fresh) c.args.store.now.heap c.put_field.new.store.heap c.written.result (λ of value. put_field of c.args.field value) _ _ c.in_ok-of.of c.in_ok-value.value c.in_ok-of.ensures c.in_ok-value.ensures
    (c.written.ensures.acts _ _ (c.put_field.ensures.acted fresh))
