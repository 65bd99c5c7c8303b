use Rattle.std.proofs.Common.{◌≡◌, drop}
use Rattle.std.specs.List.{list_all}
use Rattle.px_control.specs.Taken.{cell_fits}
use Rattle.px_control.proofs.fitting.cells_fit.Given as goal

abbrev pub invariant-loop-cell : goal.invariant-loop-cell
invariant-loop-cell l = list_all (cell_fits l.fn.heap) (drop l.cell-index l.fn.cells) ≡ list_all (cell_fits l.fn.heap) l.fn.cells
