-- The places that may point to the object of Main.
use Rattle.std.specs.Prelude.{◌≡◌, ◌↔◌, ℕ, Bool, true, false, List, length, map}
use Rattle.px_code.specs.declared.cell.Part.TheVariants.{Field}
use Rattle.px_code.specs.declared.method.Method.{Method}
use Rattle.px_code.specs.declared.code.Code.{Code}
use Rattle.px_code.specs.WellFormed.{main_fields}
use Rattle.px_code.specs.Points.{PointsTo, InSlot, InPart}
use Rattle.px_points.specs.Marks.{unmarked, is_marked, with_mark}
use Rattle.px_points.specs.Places.{Places, slot_points}

-- exactly those that points-to has
pub record IsPointsOf (code : Code) (p : Places) : Type 0 where
  pub slots : (m n : ℕ) → (slot_points p m n ≡ true) ↔ PointsTo code (InSlot m n) 0
  pub fields : (f : ℕ) → (is_marked p.fields f ≡ true) ↔ PointsTo code (InPart 0 (Field f)) 0

-- ---- where the passes begin

abbrev pub marked_if : Bool → List Bool → List Bool
marked_if true marks = with_mark marks 0
marked_if false marks = marks

-- `this` of an entry
abbrev pub first_marks : Method → List Bool
first_marks method = marked_if method.entry (unmarked (length method.slots))

abbrev pub first_places : Code → Places
first_places code = record { slots = map first_marks code.methods; fields = unmarked (length (main_fields code)) }
