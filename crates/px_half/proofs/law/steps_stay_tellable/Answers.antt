use Rattle.px_half.proofs.Tellable.{steps_stay_tellable as law}
use Rattle.px_half.proofs.law.steps_stay_tellable.Goals as goal

pub returns : goal.returns
returns c = law
