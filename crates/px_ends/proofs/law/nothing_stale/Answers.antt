use Rattle.px_ends.proofs.FreshRuns.{nothing_stale as law}
use Rattle.px_ends.proofs.law.nothing_stale.Goals as goal

pub returns : goal.returns
returns t c = law _ _
