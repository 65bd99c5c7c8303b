use Rattle.px_ends.proofs.Laws.{pair_step_agrees as law}
use Rattle.px_ends.proofs.law.pair_step_agrees.Goals as goal

pub returns : goal.returns
returns t c = law _ _
