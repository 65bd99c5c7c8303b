-- The cells that a call says that it wrote.
use Rattle.std.specs.Prelude.{ℕ, zero, suc, List, [], ◌∷◌, Option, Some, None}
use Rattle.px_effects.specs.Act.{Place as Cell}
use Rattle.px_acts.specs.declared.place.Place.{Place}
use Rattle.px_acts.specs.declared.place.Cells.{Cells}

abbrev pub cell_of : Place → Cell
cell_of p = record { object = p.object; index = p.index }

abbrev pub wrote : Option Place → List Cell
wrote None = []
wrote (Some p) = cell_of p ∷ []

-- so many cells of an object, from an index on
abbrev pub cells_from : (object index count : ℕ) → List Cell
cells_from object index zero = []
cells_from object index (suc n) = record { object = object; index = index } ∷ cells_from object (suc index) n

-- the cells of a result set but for its cursor
abbrev pub all_wrote : Option Cells → List Cell
all_wrote None = []
all_wrote (Some c) = cells_from c.object 1 c.count
