use Rattle.std.proofs.Common.{◌≡◌, ◌++◌, map, drop}
use Rattle.px_rows.specs.Means.{cells_of}
use Rattle.px_rows.proofs.choice.cells.Given as goal

abbrev pub invariant-loop-row : goal.invariant-loop-row
invariant-loop-row l = l.cells ++ cells_of l.columns (map (λ r. r.now) (drop l.row-index l.rows)) ≡ cells_of l.columns (map (λ r. r.now) l.rows)
