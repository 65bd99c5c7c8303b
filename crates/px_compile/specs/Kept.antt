-- Which fields of Main a side keeps, as a mark for each.
use Rattle.std.specs.Prelude.{◌≡◌, ◌↔◌, ℕ, ◌+◌, ◌<◌, Bool, true, false, ◌&&◌, List, [], ◌∷◌, length, map}
use Rattle.px_code.specs.declared.side.Side.{Side}
use Rattle.px_code.specs.declared.side.Side.TheVariants.{App, Db}
use Rattle.px_code.specs.declared.cell.Part.TheVariants.{Field as FieldPart}
use Rattle.px_code.specs.declared.word.Operand.TheVariants.{Slot}
use Rattle.px_code.specs.declared.word.Word.{Word}
use Rattle.px_code.specs.declared.word.Word.TheVariants as w
use Rattle.px_code.specs.declared.class.Field.{Field}
use Rattle.px_code.specs.declared.method.Method.{Method}
use Rattle.px_code.specs.declared.method.Tree.{Tree}
use Rattle.px_code.specs.declared.method.Tree.TheVariants.{Do}
use Rattle.px_code.specs.declared.code.Code.{Code}
use Rattle.px_code.specs.WellFormed.{main_fields}
use Rattle.px_code.specs.Places.{side_of, same_side}
use Rattle.px_code.specs.Sends.{Keeps}
use Rattle.px_points.specs.Marks.{is_marked, with_mark}
use Rattle.px_points.specs.Places.{Places, slot_points}
use Rattle.px_compile.specs.declared.kept.Kept.{Kept}

abbrev pub fields_at : Kept → Side → List Bool
fields_at kept App = kept.app
fields_at kept Db = kept.db

-- the marks of a side are those of the fields that it keeps
abbrev pub AreKeptAt : Code → List Side → Side → List Bool → Type 0
AreKeptAt code sides side marks = (f : ℕ) → (is_marked marks f ≡ true) ↔ ((f < length (main_fields code)) × Keeps code sides side 0 (FieldPart f))

abbrev pub AreKept : Code → List Side → Kept → Type 0
AreKept code sides kept = (side : Side) → AreKeptAt code sides side (fields_at kept side)

-- ---- how they are found

abbrev pub at_home : List Side → Side → List Field → List Bool
at_home sides side fields = map (λ field. same_side (side_of sides field.node) side) fields

abbrev pub with_mark_if : Bool → ℕ → List Bool → List Bool
with_mark_if true n marks = with_mark marks n
with_mark_if false n marks = marks

-- what a statement at the side reads
abbrev pub with_read : Places → List Side → Side → ℕ → ℕ → Word → List Bool → List Bool
with_read p sides side m node (w.Get to (Slot of) class field) marks = with_mark_if (slot_points p m of && same_side (side_of sides node) side) field marks
with_read p sides side m node _ marks = marks

abbrev pub with_tree : Places → List Side → Side → ℕ → Tree → List Bool → List Bool
with_tree p sides side m (Do node word) marks = with_read p sides side m node word marks

abbrev pub with_body : Places → List Side → Side → ℕ → List Tree → List Bool → List Bool
with_body p sides side m [] marks = marks
with_body p sides side m (tree ∷ trees) marks = with_body p sides side m trees (with_tree p sides side m tree marks)

abbrev pub with_methods : Places → List Side → Side → ℕ → List Method → List Bool → List Bool
with_methods p sides side m [] marks = marks
with_methods p sides side m (method ∷ methods) marks = with_methods p sides side (m + 1) methods (with_body p sides side m method.body marks)

abbrev pub kept_marks : Places → Code → List Side → Side → List Bool
kept_marks p code sides side = with_methods p sides side 1 code.methods (at_home sides side (main_fields code))
