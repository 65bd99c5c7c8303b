use Rattle.std.proofs.Common.{length}
use Rattle.px_ops.proofs.fitting.+find.Given as goal

abbrev pub decreases-find : goal.decreases-find
decreases-find l = length l.rows.now
