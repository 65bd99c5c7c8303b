use Rattle.px_rows.proofs.Back.{ops_back}
use Rattle.px_rows.proofs.law.undo_restores_all.Goals as goal

pub returns : goal.returns
returns c = ops_back
