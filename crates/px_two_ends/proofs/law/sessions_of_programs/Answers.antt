use Rattle.px_two_ends.proofs.Programs.{sessions_of_programs}
use Rattle.px_two_ends.proofs.law.sessions_of_programs.Goals as goal

pub returns : goal.returns
returns t c = sessions_of_programs _ _
