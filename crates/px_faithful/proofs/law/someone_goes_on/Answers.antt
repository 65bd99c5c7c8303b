use Rattle.px_faithful.proofs.Whole.{someone_goes_on as law}
use Rattle.px_faithful.proofs.law.someone_goes_on.Goals as goal

pub returns : goal.returns
returns c = law
