use Rattle.px_choose.proofs.MoveLaw.{flip_costs}
use Rattle.px_choose.proofs.law.flip_costs.Goals as goal

pub returns : goal.returns
returns c = flip_costs
