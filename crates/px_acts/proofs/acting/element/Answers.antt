use Rattle.px_effects.specs.Cells.{first_cells, load}
use Rattle.px_acts.proofs.WithOperands.{two}
use Rattle.px_acts.proofs.acting.element.Goals as goal

pub returns : goal.returns
returns c fresh =
    two (first_cells fresh) c.args.store.now.heap c.args.store.now.heap c.ended.result load _ _ c.in_ok-of.of c.in_ok-index.index c.in_ok-of.ensures c.in_ok-index.ensures
    (c.ended.ensures.acts _ _ (c.load.ensures fresh))
