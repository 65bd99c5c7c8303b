use Rattle.std.proofs.Common.{◌≡◌, length}
use Rattle.px_lowering.specs.Expressions.{first_or, first_of}
use Rattle.px_lowering.proofs.calls.first.Given as goal

abbrev pub invariant-loop-operand : goal.invariant-loop-operand
invariant-loop-operand l = first_or l.found l.args ≡ first_of l.fn.args

abbrev pub decreases-loop-operand : goal.decreases-loop-operand
decreases-loop-operand l = length l.args
