use Rattle.px_ends.proofs.PlansGood.{plans_are_good as law}
use Rattle.px_ends.proofs.law.plans_are_good.Goals as goal

pub returns : goal.returns
returns t c = law _ _
