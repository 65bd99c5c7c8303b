use Rattle.px_typed_code.proofs.FewMethods.{slots_are_few}
use Rattle.px_typed_code.proofs.law.slots_are_few.Goals as goal

pub returns : goal.returns
returns c = slots_are_few
