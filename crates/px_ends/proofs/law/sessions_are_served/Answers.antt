use Rattle.px_ends.proofs.FittingRuns.{sessions_are_served as law}
use Rattle.px_ends.proofs.law.sessions_are_served.Goals as goal

pub returns : goal.returns
returns t c = law _ _
