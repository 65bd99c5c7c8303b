use Rattle.std.proofs.Common.{◌≡◌, ◌++◌, map, drop}
use Rattle.px_rows.specs.Means.{column_of}
use Rattle.px_rows.proofs.choice.push_cells.Given as goal

abbrev pub invariant-loop-column : goal.invariant-loop-column
invariant-loop-column l = l.cells ++ map (column_of l.row) (drop l.column-index l.columns) ≡ l.fn.cells ++ map (column_of l.row) l.columns
