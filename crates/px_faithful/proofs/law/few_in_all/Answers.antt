use Rattle.px_faithful.proofs.Whole.{few_in_all as law}
use Rattle.px_faithful.proofs.law.few_in_all.Goals as goal

pub returns : goal.returns
returns c = law
