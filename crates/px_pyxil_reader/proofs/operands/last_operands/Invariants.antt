use Rattle.std.proofs.Common.{◌≡◌, ◌++◌, length}
use Rattle.std.specs.Option.{option_map}
use Rattle.px_pyxil_reader.specs.Reading.{operands_in}
use Rattle.px_pyxil_reader.proofs.operands.last_operands.Given as goal

abbrev pub invariant-loop-turns : goal.invariant-loop-turns
invariant-loop-turns l = option_map (λ more. l.operands ++ more) (operands_in l.turns l.rest) ≡ operands_in l.from l.from

abbrev pub decreases-loop-turns : goal.decreases-loop-turns
decreases-loop-turns l = length l.turns
