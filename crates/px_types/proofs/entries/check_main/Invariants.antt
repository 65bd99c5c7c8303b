use Rattle.std.proofs.Common.{◌≡◌, drop}
use Rattle.px_type_rules.specs.Breaches.{after}
use Rattle.px_types.specs.Programs.{main_notes}
use Rattle.px_types.proofs.entries.check_main.Given as goal

abbrev pub invariant-loop-class : goal.invariant-loop-class
invariant-loop-class l = record {
  notes : after l.report (main_notes l.fn.numbers l.fn.end (drop l.class-index l.fn.classes)) ≡ after l.fn.report (main_notes l.fn.numbers l.fn.end l.fn.classes);
}
