use Rattle.px_core.proofs.Nexts.{next_is_single as law}
use Rattle.px_core.proofs.law.next_is_single.Goals as goal

pub returns : goal.returns
returns c = law
