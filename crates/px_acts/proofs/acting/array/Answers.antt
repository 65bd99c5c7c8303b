use Rattle.px_effects.specs.Cells.{first_cells, make_array}
use Rattle.px_acts.proofs.WithOperands.{one}
use Rattle.px_acts.proofs.acting.array.Goals as goal

pub returns-clause-acts : goal.returns-clause-acts
returns-clause-acts c fresh =
    one (first_cells fresh) c.args.store.now.heap c.make_array.new.store.heap c.ended.result (make_array c.args.element c.args.site) _ c.in_ok-length.length c.in_ok-length.ensures
    (c.ended.ensures.acts _ _ (c.make_array.ensures.acted fresh))
