use Rattle.px_ends.proofs.FittingRuns.{entry_calls_are_good as law}
use Rattle.px_ends.proofs.law.entry_calls_are_good.Goals as goal

pub returns : goal.returns
returns t c = law _ _
