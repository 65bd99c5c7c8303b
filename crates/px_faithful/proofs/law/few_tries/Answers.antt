use Rattle.px_faithful.proofs.Whole.{few_tries as law}
use Rattle.px_faithful.proofs.law.few_tries.Goals as goal

pub returns : goal.returns
returns c = law
