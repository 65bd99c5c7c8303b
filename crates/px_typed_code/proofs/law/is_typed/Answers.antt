use Rattle.px_typed_code.proofs.Programs.{lowered_is_typed}
use Rattle.px_typed_code.proofs.law.is_typed.Goals as goal

pub returns : goal.returns
returns c = lowered_is_typed
