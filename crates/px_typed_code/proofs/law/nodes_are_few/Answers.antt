use Rattle.px_typed_code.proofs.FewNodeMethods.{nodes_are_few}
use Rattle.px_typed_code.proofs.law.nodes_are_few.Goals as goal

pub returns : goal.returns
returns c = nodes_are_few
