use Rattle.std.proofs.Common.{◌≡◌, ◌+◌, List, drop}
use Rattle.px_locks.specs.declared.want.Grant.{Grant}
use Rattle.px_locks.specs.Locks.{granted, IsJoined}
use Rattle.px_locks.proofs.book.LockBook.grant.Given as goal

abbrev pub invariant-loop-want : goal.invariant-loop-want
invariant-loop-want l = record {
  spare : l.self.spare + l.want-index ≡ l.fn.self.spare;
  grants : (after : List Grant) → IsJoined l.self.grants (granted l.session l.stamp (drop l.want-index l.wants)) after → IsJoined l.fn.self.grants (granted l.session l.stamp l.wants) after;
}
