use Rattle.px_ends.proofs.SureRuns.{runs_stay_sure as law}
use Rattle.px_ends.proofs.law.runs_stay_sure.Goals as goal

pub returns : goal.returns
returns t c = law _ _
