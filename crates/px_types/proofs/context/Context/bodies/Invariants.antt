use Rattle.std.proofs.Common.{◌≡◌, drop}
use Rattle.px_type_rules.specs.Breaches.{after}
use Rattle.px_types.specs.Programs.{bodies}
use Rattle.px_types.proofs.context.Context.bodies.Given as goal

abbrev pub invariant-loop-class : goal.invariant-loop-class
invariant-loop-class l = record {
  classes : l.self.classes ≡ l.fn.self.classes;
  this : l.self.this ≡ l.class-index;
  notes : after l.report (bodies l.fn.self.classes l.self.this (drop l.class-index l.fn.classes)) ≡ after l.fn.report (bodies l.fn.self.classes 0 l.fn.classes);
}
