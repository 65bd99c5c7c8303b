use Rattle.px_counted.proofs.Whole.{counts_are_runs}
use Rattle.px_counted.proofs.law.counts_are_runs.Goals as goal

pub returns : goal.returns
returns t c = counts_are_runs _ _
