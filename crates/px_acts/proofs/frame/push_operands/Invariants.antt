use Rattle.std.proofs.Common.{◌≡◌, ◌++◌, map, drop}
use Rattle.px_normal.specs.Words.{operand}
use Rattle.px_acts.specs.Slots.{values_in}
use Rattle.px_acts.proofs.frame.push_operands.Given as goal

abbrev pub invariant-loop-it : goal.invariant-loop-it
invariant-loop-it l = l.values ++ map (operand (values_in l.slots)) (drop l.it-index l.operands) ≡ l.fn.values ++ map (operand (values_in l.slots)) l.fn.operands
