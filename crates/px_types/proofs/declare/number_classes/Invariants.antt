use Rattle.std.proofs.Common.{◌≡◌, drop}
use Rattle.px_type_rules.specs.Breaches.{after}
use Rattle.px_types.specs.Names.{empty}
use Rattle.px_types.specs.Members.{numbered, numbers_of}
use Rattle.px_types.specs.Programs.{class_names}
use Rattle.px_types.proofs.declare.number_classes.Given as goal

abbrev pub invariant-loop-class : goal.invariant-loop-class
invariant-loop-class l = record {
  number : l.number ≡ l.class-index;
  numbers : numbered l.number l.numbers (drop l.class-index l.fn.classes) ≡ numbers_of l.fn.classes;
  notes : after l.report (class_names l.number l.numbers (drop l.class-index l.fn.classes)) ≡ after l.fn.report (class_names 0 empty l.fn.classes);
}
