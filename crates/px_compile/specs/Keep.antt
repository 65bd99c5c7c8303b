-- The parts that a side keeps, in a list.
use Rattle.std.specs.Prelude.{ℕ, ◌+◌, Bool, true, false, List, [], ◌∷◌}
use Rattle.px_code.specs.declared.cell.Part.TheVariants.{Field}
use Rattle.px_code.specs.declared.cell.Keep.{Keep}
use Rattle.px_code.specs.declared.cell.SitePart.{SitePart}
use Rattle.px_compile.specs.declared.kept.Kept.{Kept}

abbrev pub part_if : Bool → ℕ → List SitePart → List SitePart
part_if true f parts = record { site = 0; part = Field f } ∷ parts
part_if false f parts = parts

-- the marked fields, from a number on
abbrev pub parts_from : ℕ → List Bool → List SitePart
parts_from f [] = []
parts_from f (marked ∷ marks) = part_if marked f (parts_from (f + 1) marks)

abbrev pub keep_of : Kept → Keep
keep_of kept = record { app = parts_from 0 kept.app; db = parts_from 0 kept.db }
