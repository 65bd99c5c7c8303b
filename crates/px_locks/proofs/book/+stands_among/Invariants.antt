use Rattle.std.proofs.Common.{length}
use Rattle.px_locks.proofs.book.+stands_among.Given as goal

abbrev pub decreases-stands_among : goal.decreases-stands_among
decreases-stands_among l = length l.grants.now
