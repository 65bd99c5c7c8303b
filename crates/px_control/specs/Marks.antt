-- Marks as the machine has them.
use Rattle.std.specs.Prelude.{List, [], ◌∷◌, Option, Some, None}
use Rattle.px_effects.specs.Act.{Place as Cell}
use Rattle.px_control.specs.declared.marks.Mark.{Mark}

abbrev pub cell_of : Mark → Cell
cell_of m = record { object = m.object; index = m.index }

-- a cell, if there is one
abbrev pub cells_of : Option Mark → List Cell
cells_of None = []
cells_of (Some m) = cell_of m ∷ []
