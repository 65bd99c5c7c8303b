use Rattle.std.proofs.Common.{◌≡◌, drop}
use Rattle.px_type_rules.specs.Breaches.{after}
use Rattle.px_types.specs.Programs.{entries}
use Rattle.px_types.proofs.entries.check_entries.Given as goal

abbrev pub invariant-loop-member : goal.invariant-loop-member
invariant-loop-member l = record {
  notes : after l.report (entries l.fn.numbers (drop l.member-index l.fn.members)) ≡ after l.fn.report (entries l.fn.numbers l.fn.members);
}
