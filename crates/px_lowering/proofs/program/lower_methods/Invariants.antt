use Rattle.std.proofs.Common.{◌≡◌, ◌++◌, [], drop}
use Rattle.px_lowering.specs.Methods.{all_now}
use Rattle.px_lowering.specs.Programs.{lowered_methods}
use Rattle.px_lowering.proofs.program.lower_methods.Given as goal

abbrev pub invariant-loop-source : goal.invariant-loop-source
invariant-loop-source l = record {
  methods : (lowered_methods l.fn.checked 1 (all_now l.fn.sources) l.fn.facts []).methods ≡ l.methods ++ (lowered_methods l.fn.checked l.number (all_now (drop l.source-index l.fn.sources)) l.left l.nodes).methods;
  nodes : (lowered_methods l.fn.checked 1 (all_now l.fn.sources) l.fn.facts []).nodes ≡ (lowered_methods l.fn.checked l.number (all_now (drop l.source-index l.fn.sources)) l.left l.nodes).nodes;
}
