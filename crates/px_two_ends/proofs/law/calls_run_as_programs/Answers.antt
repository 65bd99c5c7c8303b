use Rattle.px_two_ends.proofs.Programs.{calls_run_as_programs}
use Rattle.px_two_ends.proofs.law.calls_run_as_programs.Goals as goal

pub returns : goal.returns
returns t c = calls_run_as_programs _ _
