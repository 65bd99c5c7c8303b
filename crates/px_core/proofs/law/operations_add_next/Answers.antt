use Rattle.px_core.proofs.Nexts.{operations_add_next as law}
use Rattle.px_core.proofs.law.operations_add_next.Goals as goal

pub returns : goal.returns
returns c = law
