use Rattle.px_typed_code.proofs.Programs.{entries_are_methods}
use Rattle.px_typed_code.proofs.law.entries_are_methods.Goals as goal

pub returns : goal.returns
returns c = entries_are_methods
