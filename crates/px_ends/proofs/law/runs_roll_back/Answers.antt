use Rattle.px_ends.proofs.RollBack.{runs_roll_back as law}
use Rattle.px_ends.proofs.law.runs_roll_back.Goals as goal

pub returns : goal.returns
returns t c = law _ _
