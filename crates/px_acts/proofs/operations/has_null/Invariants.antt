use Rattle.std.proofs.Common.{◌≡◌, drop}
use Rattle.std.specs.List.{list_any}
use Rattle.px_effects.specs.Operations.{is_null}
use Rattle.px_acts.proofs.operations.has_null.Given as goal

abbrev pub invariant-loop-value : goal.invariant-loop-value
invariant-loop-value l = list_any is_null l.fn.values ≡ list_any is_null (drop l.value-index l.values)
