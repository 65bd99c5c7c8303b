use Rattle.std.proofs.Common.{◌≡◌, ◌++◌, drop}
use Rattle.px_pyxil.specs.Words.{operands}
use Rattle.px_pyxil.specs.Spelling.{spaced}
use Rattle.px_pyxil.proofs.statement.push_operands.Given as goal

abbrev pub invariant-loop-operand : goal.invariant-loop-operand
invariant-loop-operand l =
    l.text.items ++ spaced (operands (drop l.operand-index l.xs)) ≡ l.initial.text.items ++ spaced (operands l.xs)
