use Rattle.std.proofs.Common.{◌≡◌, drop}
use Rattle.px_type_rules.specs.Breaches.{after}
use Rattle.px_types.specs.Programs.{class_bodies}
use Rattle.px_types.proofs.context.Context.body.Given as goal

abbrev pub invariant-loop-member : goal.invariant-loop-member
invariant-loop-member l = record {
  classes : l.self.classes ≡ l.fn.self.classes;
  this : l.self.this ≡ l.fn.self.this;
  notes : after l.report (class_bodies l.fn.self.classes l.fn.self.this (drop l.member-index l.fn.members)) ≡ after l.fn.report (class_bodies l.fn.self.classes l.fn.self.this l.fn.members);
}
