use Rattle.px_ends.proofs.Laws.{pair_answer_agrees as law}
use Rattle.px_ends.proofs.law.pair_answer_agrees.Goals as goal

pub returns : goal.returns
returns t c = law _ _
