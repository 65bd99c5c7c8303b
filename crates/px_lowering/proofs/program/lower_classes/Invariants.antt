use Rattle.std.proofs.Common.{◌≡◌, ◌++◌, drop}
use Rattle.px_lowering.specs.Programs.{lowered_classes}
use Rattle.px_lowering.proofs.program.lower_classes.Given as goal

abbrev pub invariant-loop-source : goal.invariant-loop-source
invariant-loop-source l = record {
  classes : (lowered_classes l.fn.checked l.fn.sources l.fn.facts l.fn.nodes).classes ≡ l.classes ++ (lowered_classes l.fn.checked (drop l.source-index l.fn.sources) l.left l.nodes).classes;
  nodes : (lowered_classes l.fn.checked l.fn.sources l.fn.facts l.fn.nodes).nodes ≡ (lowered_classes l.fn.checked (drop l.source-index l.fn.sources) l.left l.nodes).nodes;
}
