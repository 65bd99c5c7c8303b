use Rattle.px_pair.proofs.Good.{cut_is_good as law}
use Rattle.px_pair.proofs.law.cut_is_good.Goals as goal

pub returns : goal.returns
returns c = law
