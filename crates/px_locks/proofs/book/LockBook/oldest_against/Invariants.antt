use Rattle.std.proofs.Common.{◌≡◌, drop, None}
use Rattle.px_locks.specs.Locks.{oldest_from}
use Rattle.px_locks.proofs.book.LockBook.oldest_against.Given as goal

abbrev pub invariant-loop-want : goal.invariant-loop-want
invariant-loop-want l = oldest_from l.session (drop l.want-index l.wants) l.best l.self.grants ≡ oldest_from l.session l.wants None l.self.grants
