use Rattle.std.proofs.Common.{◌≡◌, ◌++◌, drop}
use Rattle.px_half.proofs.take_in.copied_cells.Given as goal

abbrev pub invariant-loop-cell : goal.invariant-loop-cell
invariant-loop-cell l = l.copies.items ++ drop l.cell-index l.fn.cells ≡ l.fn.cells
