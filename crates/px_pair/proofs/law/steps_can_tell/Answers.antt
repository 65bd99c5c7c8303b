use Rattle.px_pair.proofs.Telling.{steps_can_tell as law}
use Rattle.px_pair.proofs.law.steps_can_tell.Goals as goal

pub returns : goal.returns
returns c = law
