use Rattle.std.proofs.Common.{◌≡◌, ◌+◌, ◌++◌, ℕ, [], drop, nat_eq, unwrap_or}
use Rattle.std.specs.HashMap.{get}
use Rattle.px_job.specs.Groups.{numbers_at}
use Rattle.px_job.proofs.groups.numbers_by.Given as goal

abbrev pub invariant-loop-key : goal.invariant-loop-key
invariant-loop-key l =
    record {
      counted : l.number ≡ l.key-index;
      grouped : (key : ℕ) → unwrap_or (get nat_eq l.groups key) [] ++ numbers_at key (l.key-index + 1) (drop l.key-index l.keys) ≡ numbers_at key 1 l.keys;
    }
