use Rattle.std.proofs.Common.{◌≡◌, ◌++◌, drop, map}
use Rattle.px_type_rules.specs.Breaches.{after}
use Rattle.px_types.specs.Members.{class_members}
use Rattle.px_types.specs.Programs.{all_members}
use Rattle.px_types.proofs.declare.declare_all.Given as goal

abbrev pub invariant-loop-class : goal.invariant-loop-class
invariant-loop-class l = record {
  all : l.all ++ map (class_members l.fn.numbers) (drop l.class-index l.fn.classes) ≡ map (class_members l.fn.numbers) l.fn.classes;
  notes : after l.report (all_members l.fn.numbers (drop l.class-index l.fn.classes)) ≡ after l.fn.report (all_members l.fn.numbers l.fn.classes);
}
