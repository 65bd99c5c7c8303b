use Rattle.std.proofs.Common.{◌≡◌, ◌++◌, drop}
use Rattle.px_main.proofs.serial.copied.Given as goal

abbrev pub invariant-loop-value : goal.invariant-loop-value
invariant-loop-value l = l.fn.values ≡ l.all ++ drop l.value-index l.values
