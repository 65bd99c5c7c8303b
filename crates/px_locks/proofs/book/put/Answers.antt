use Rattle.std.proofs.Common.{rules}
use Rattle.px_locks.proofs.In.{joined_here}
use Rattle.px_locks.proofs.book.put.Goals as goal

pub returns-else-not-stands-clause-items : goal.returns-else-not-stands-clause-items
returns-else-not-stands-clause-items c = joined_here _ _ (search rules)
