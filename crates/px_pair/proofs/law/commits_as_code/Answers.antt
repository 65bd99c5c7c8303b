use Rattle.px_pair.proofs.Whole.{commits_as_code as law}
use Rattle.px_pair.proofs.law.commits_as_code.Goals as goal

pub returns : goal.returns
returns c = law
