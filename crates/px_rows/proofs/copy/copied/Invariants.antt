use Rattle.std.proofs.Common.{◌≡◌, ◌++◌, drop}
use Rattle.px_rows.proofs.copy.copied.Given as goal

abbrev pub invariant-loop-value : goal.invariant-loop-value
invariant-loop-value l = l.copy ++ drop l.value-index l.value-items ≡ l.value-items
