use Rattle.std.proofs.Common.{◌≡◌, length}
use Rattle.px_main.specs.Run.{shown_from, no_counts}
use Rattle.px_main.proofs.Numbers.{counts_from, AreFew}
use Rattle.px_main.proofs.run.shown_calls.Given as goal

abbrev pub invariant-loop-shown : goal.invariant-loop-shown
invariant-loop-shown l = record {
  can_next : (goal.iterator-loop-shown).can_next l.shown-iterator;
  is_finite : (goal.iterator-loop-shown).is_finite l.shown-iterator;
  shown : l.all.items ≡ shown_from l.fn.calls 0 (no_counts l.fn.sessions) l.yielded;
  counts : l.counts.items ≡ counts_from l.fn.calls 0 (no_counts l.fn.sessions) l.yielded;
  few : AreFew (length l.yielded) l.counts.items;
  place : l.place ≡ length l.yielded;
  made : length l.all.items ≡ length l.yielded;
}
