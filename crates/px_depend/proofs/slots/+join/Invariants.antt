use Rattle.std.proofs.Common.{length}
use Rattle.px_depend.proofs.slots.+join.Given as goal

abbrev pub decreases-join : goal.decreases-join
decreases-join l = length l.list.now
