use Rattle.std.proofs.Common.{arith, sym, subst}
use Rattle.px_locks.specs.Spots.{IsInOrder}
use Rattle.px_locks.proofs.Range.{in_order_none}
use Rattle.px_locks.proofs.book.LockBook.new.Goals as goal

pub invariant_of-result : goal.invariant_of-result
invariant_of-result c = (subst IsInOrder (sym c.new.ensures.items) in_order_none, omega arith)
