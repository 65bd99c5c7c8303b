use Rattle.px_ends.proofs.FreshRuns.{session_nothing_stale as law}
use Rattle.px_ends.proofs.law.session_nothing_stale.Goals as goal

pub returns : goal.returns
returns t c = law _ _
