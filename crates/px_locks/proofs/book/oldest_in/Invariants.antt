use Rattle.std.proofs.Common.{◌≡◌, drop}
use Rattle.px_locks.specs.Locks.{oldest_at}
use Rattle.px_locks.proofs.book.oldest_in.Given as goal

abbrev pub invariant-loop-grant : goal.invariant-loop-grant
invariant-loop-grant l = oldest_at l.session l.want l.best (drop l.grant-index l.grants) ≡ oldest_at l.session l.want l.fn.before l.grants
