use Rattle.px_mean.proofs.OnList.{asked_in_order}
use Rattle.px_mean.proofs.law.asked_in_order.Goals as goal

pub returns : goal.returns
returns c = asked_in_order
