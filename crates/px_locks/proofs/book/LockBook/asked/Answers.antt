use Rattle.std.proofs.Common.{sym, arith, ◌∙◌}
use Rattle.px_locks.proofs.Best.{free, oldest}
use Rattle.px_locks.proofs.book.LockBook.asked.Goals as goal

pub returns-then-grant-stamp : goal.returns-then-grant-stamp
returns-then-grant-stamp c = (c.in-Some.grant, oldest _ _ _ _ (sym c.oldest_against.ensures ∙ c.in-Some.is), omega arith)

pub returns-else-grant-stamp : goal.returns-else-grant-stamp
returns-else-grant-stamp c = (c.in-Some.grant, oldest _ _ _ _ (sym c.oldest_against.ensures ∙ c.in-Some.is), omega arith)

pub returns-in-None : goal.returns-in-None
returns-in-None c = free _ _ _ (sym c.oldest_against.ensures ∙ c.in-None.is)
