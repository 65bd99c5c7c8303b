use Rattle.std.proofs.Common.{◌≡◌, ◌+◌, length}
use Rattle.px_main.specs.Solo.{history_of}
use Rattle.px_main.proofs.solo.history.Given as goal

abbrev pub invariant-loop-done : goal.invariant-loop-done
invariant-loop-done l = record {
  can_next : (goal.iterator-loop-done).can_next l.done-iterator;
  is_finite : (goal.iterator-loop-done).is_finite l.done-iterator;
  events : l.events.items ≡ history_of l.yielded;
  call : l.call ≡ length l.yielded + 1;
}
