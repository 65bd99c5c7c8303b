use Rattle.std.proofs.Common.{◌≡◌, ◌∷◌, ◌++◌, drop}
use Rattle.std.specs.List.{flat_map}
use Rattle.px_report.specs.Words.{value_text}
use Rattle.px_report.proofs.heaps.push_cells.Given as goal

abbrev pub invariant-loop-cell : goal.invariant-loop-cell
invariant-loop-cell l =
    l.text.items ++ flat_map (λ cell. 32 ∷ value_text cell) (drop l.cell-index l.cells) ≡ l.fn.text.items ++ flat_map (λ cell. 32 ∷ value_text cell) l.cells
