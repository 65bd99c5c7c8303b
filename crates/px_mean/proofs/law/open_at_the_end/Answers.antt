use Rattle.px_mean.proofs.OnList.{open_at_the_end}
use Rattle.px_mean.proofs.law.open_at_the_end.Goals as goal

pub returns : goal.returns
returns c = open_at_the_end
