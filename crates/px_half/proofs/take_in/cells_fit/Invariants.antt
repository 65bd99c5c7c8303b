use Rattle.std.proofs.Common.{◌≡◌, drop}
use Rattle.px_half.specs.Absorbed.{cells_fit}
use Rattle.px_half.proofs.take_in.cells_fit.Given as goal

abbrev pub invariant-loop-cell : goal.invariant-loop-cell
invariant-loop-cell l = cells_fit l.fn.cells l.heap ≡ cells_fit (drop l.cell-index l.fn.cells) l.heap
