use Rattle.std.proofs.Common.{◌≡◌, ◌++◌, drop, map}
use Rattle.px_types.specs.Checked.{class_known}
use Rattle.px_types.proofs.verdict.class_facts.Given as goal

abbrev pub invariant-loop-class : goal.invariant-loop-class
invariant-loop-class l = record {
  facts : l.facts ++ map class_known (drop l.class-index l.fn.members) ≡ map class_known l.fn.members;
}
