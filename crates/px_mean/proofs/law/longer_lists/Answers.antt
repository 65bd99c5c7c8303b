use Rattle.px_mean.proofs.OnList.{longer_lists}
use Rattle.px_mean.proofs.law.longer_lists.Goals as goal

pub returns : goal.returns
returns c = longer_lists
