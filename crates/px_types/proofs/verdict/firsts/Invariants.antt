use Rattle.std.proofs.Common.{◌≡◌, ◌++◌, drop}
use Rattle.px_types.specs.Bodies.{firsts_from}
use Rattle.px_types.proofs.verdict.firsts.Given as goal

abbrev pub invariant-loop-class : goal.invariant-loop-class
invariant-loop-class l = record {
  firsts : l.firsts ++ firsts_from l.first (drop l.class-index l.fn.members) ≡ firsts_from 1 l.fn.members;
}
