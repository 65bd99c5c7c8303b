use Rattle.px_rows.proofs.Types.{empty_typed}
use Rattle.px_rows.proofs.law.empty_is_typed.Goals as goal

pub returns : goal.returns
returns c = empty_typed
