use Rattle.px_ops.proofs.Whole.{table_is_whole}
use Rattle.px_ops.proofs.law.table_is_whole.Goals as goal

pub returns : goal.returns
returns c = table_is_whole
