use Rattle.px_ends.proofs.Laws.{run_agrees as law}
use Rattle.px_ends.proofs.law.run_agrees.Goals as goal

pub returns : goal.returns
returns t c = law _ _
