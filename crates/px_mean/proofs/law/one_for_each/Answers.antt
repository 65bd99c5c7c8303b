use Rattle.px_mean.proofs.OnList.{one_for_each}
use Rattle.px_mean.proofs.law.one_for_each.Goals as goal

pub returns : goal.returns
returns c = one_for_each
