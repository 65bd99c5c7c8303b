use Rattle.px_straight.proofs.Runs.{runs_as_code}
use Rattle.px_straight.proofs.law.straight_runs_as_code.Goals as goal

pub returns : goal.returns
returns t c = runs_as_code _ _
