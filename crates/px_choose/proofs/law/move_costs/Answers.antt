use Rattle.px_choose.proofs.MoveLaw.{move_costs}
use Rattle.px_choose.proofs.law.move_costs.Goals as goal

pub returns : goal.returns
returns c = move_costs
