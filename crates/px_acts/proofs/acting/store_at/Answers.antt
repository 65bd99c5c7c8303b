use Rattle.px_effects.specs.Cells.{first_cells, store}
use Rattle.px_acts.proofs.WithOperands.{three}
use Rattle.px_acts.proofs.acting.store_at.Goals as goal

pub returns-clause-acts : goal.returns-clause-acts
returns-clause-acts c fresh =
    three (first_cells fresh) c.args.store.now.heap c.store_element.new.store.heap c.written.result store _ _ _ c.in_ok-of.of c.in_ok-index.index c.in_ok-value.value c.in_ok-of.ensures c.in_ok-index.ensures c.in_ok-value.ensures
    (c.written.ensures.acts _ _ (c.store_element.ensures.acted fresh))
