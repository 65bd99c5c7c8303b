use Rattle.std.proofs.Common.{◌≡◌, ◌++◌}
use Rattle.px_control.proofs.carry.list_of.Given as goal

abbrev pub invariant-loop-mark : goal.invariant-loop-mark
invariant-loop-mark l = l.marks.items ++ l.mark-iterator ≡ l.fn.set.keys
