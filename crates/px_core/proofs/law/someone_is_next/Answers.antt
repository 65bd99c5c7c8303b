use Rattle.px_core.proofs.Nexts.{someone_is_next as law}
use Rattle.px_core.proofs.law.someone_is_next.Goals as goal

pub returns : goal.returns
returns c = law
