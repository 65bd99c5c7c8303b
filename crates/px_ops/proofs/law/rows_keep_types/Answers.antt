use Rattle.px_ops.proofs.Keeping.{rows_keep_types}
use Rattle.px_ops.proofs.law.rows_keep_types.Goals as goal

pub returns : goal.returns
returns c = rows_keep_types
