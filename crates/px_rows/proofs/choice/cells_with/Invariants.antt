use Rattle.std.proofs.Common.{◌≡◌, ◌++◌, map, drop}
use Rattle.px_rows.specs.Means.{cells_of, first_of, rows_with}
use Rattle.px_rows.proofs.choice.cells_with.Given as goal

abbrev pub invariant-loop-row : goal.invariant-loop-row
invariant-loop-row l = l.cells ++ cells_of l.columns (rows_with l.column (first_of l.params) (map (λ r. r.now) (drop l.row-index l.rows))) ≡ cells_of l.columns (rows_with l.column (first_of l.params) (map (λ r. r.now) l.rows))
