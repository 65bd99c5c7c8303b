use Rattle.std.proofs.Common.{◌≡◌, ◌++◌, drop}
use Rattle.px_named.proofs.copies.copy_all.Given as goal

abbrev pub invariant-loop-operand : goal.invariant-loop-operand
invariant-loop-operand l = l.copy ++ drop l.operand-index l.fn.operands ≡ l.fn.operands
