use Rattle.std.proofs.Common.{◌≡◌, ◌≤◌, drop}
use Rattle.px_effects.specs.Operations.{are_short, max_texts}
use Rattle.px_acts.proofs.Short.{short_from}
use Rattle.px_acts.proofs.operations.are_short.Given as goal

abbrev pub invariant-loop-value : goal.invariant-loop-value
invariant-loop-value l = record {
  within : l.total ≤ max_texts;
  rest : are_short l.fn.values ≡ short_from l.total (drop l.value-index l.values);
}
