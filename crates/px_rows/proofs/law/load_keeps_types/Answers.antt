use Rattle.px_rows.proofs.Types.{load_typed}
use Rattle.px_rows.proofs.law.load_keeps_types.Goals as goal

pub returns : goal.returns
returns c = load_typed
