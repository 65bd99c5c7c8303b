use Rattle.std.proofs.Common.{◌≡◌, ◌++◌, ◌∷◌, pos, drop}
use Rattle.px_value.specs.declared.value.Value.TheVariants.{Int}
use Rattle.px_acts.proofs.rows.with_cursor.Given as goal

abbrev pub invariant-loop-cell : goal.invariant-loop-cell
invariant-loop-cell l = l.values ++ drop l.cell-index l.cells ≡ Int (pos 0) ∷ l.fn.cells
