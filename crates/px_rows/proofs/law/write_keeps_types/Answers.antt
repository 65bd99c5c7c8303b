use Rattle.px_rows.proofs.Types.{write_typed}
use Rattle.px_rows.proofs.law.write_keeps_types.Goals as goal

pub returns : goal.returns
returns c = write_typed
