use Rattle.px_rows.proofs.Back.{op_back}
use Rattle.px_rows.proofs.law.undo_restores.Goals as goal

pub returns : goal.returns
returns c = op_back
