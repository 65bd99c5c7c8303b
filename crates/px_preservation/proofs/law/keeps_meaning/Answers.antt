use Rattle.px_preservation.proofs.Whole.{keeps_meaning}
use Rattle.px_preservation.proofs.law.keeps_meaning.Goals as goal

pub returns : goal.returns
returns t c = keeps_meaning _ _
