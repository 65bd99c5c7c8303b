use Rattle.px_pair.proofs.Told.{talks_are_told as law}
use Rattle.px_pair.proofs.law.talks_are_told.Goals as goal

pub returns : goal.returns
returns c = law
