use Rattle.std.proofs.Common.{◌≡◌, ◌++◌, map, drop}
use Rattle.px_blocks.specs.Message.{valued}
use Rattle.px_control.specs.Marks.{cell_of}
use Rattle.px_control.proofs.carry.with_values.Given as goal

abbrev pub invariant-loop-mark : goal.invariant-loop-mark
invariant-loop-mark l = l.cells.items ++ valued l.fn.heap (map cell_of (drop l.mark-index l.fn.marks)) ≡ valued l.fn.heap (map cell_of l.fn.marks)
