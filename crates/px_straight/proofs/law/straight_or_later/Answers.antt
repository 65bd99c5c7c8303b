use Rattle.px_straight.proofs.Order.{or_later}
use Rattle.px_straight.proofs.law.straight_or_later.Goals as goal

pub returns : goal.returns
returns c = or_later
