use Rattle.std.proofs.Common.{length}
use Rattle.px_rows.proofs.change.+assign.Given as goal

abbrev pub decreases-assign : goal.decreases-assign
decreases-assign l = length l.columns.now
