-- Where a result set stands, and its columns.
use Rattle.std.specs.Prelude.{◌≡◌, ℕ, Result, Ok, Err}
use Rattle.px_value.specs.declared.thrown.Thrown.{Thrown}
use Rattle.px_effects.specs.Rows.{Standing}
use Rattle.px_plain.specs.declared.place.Place.{Place}
use Rattle.px_plain.specs.declared.stop.Stop.{Stop}
use Rattle.px_plain.specs.declared.stop.Stop.TheVariants as stop

abbrev pub told_place : Place → Standing
told_place p = record { width = p.width; rows = p.rows; cursor = p.cursor }

-- the cell or the throw that a column comes to, unless memory ran out
abbrev pub Finds : Result ℕ Stop → Result ℕ Thrown → Type 0
Finds (Ok cell) a = a ≡ Ok cell
Finds (Err (stop.Threw t)) a = a ≡ Err t
Finds (Err stop.NoMemory) a = Unit {0}
