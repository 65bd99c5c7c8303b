-- What statements read and write, by the sets that are kept.
use Rattle.std.specs.Prelude.{◌≡◌, ℕ, List, [], ◌∷◌}
use Rattle.px_constraints.specs.System.{At}
use Rattle.px_constraints.specs.Sets.{Rises}
use Rattle.px_normal.specs.declared.word.Operand.{Operand}
use Rattle.px_normal.specs.declared.word.Operand.TheVariants.{Slot, Literal}
use Rattle.px_normal.specs.declared.word.Word.{Word}
use Rattle.px_normal.specs.declared.word.Word.TheVariants as w
use Rattle.px_normal.specs.declared.code.Code.{Code}
use Rattle.px_flow_points.specs.declared.part.Part.{Part}
use Rattle.px_flow_points.specs.declared.part.Part.TheVariants.{Field, Elements}
use Rattle.px_flow_points.specs.Statements.{HasStatement}
use Rattle.px_flow_points.specs.Points.{ReadsPart, WritesPart}
use Rattle.px_flow_points.specs.Laws.{Both}
use Rattle.px_flow_points.specs.Exact.{PointsOf, slot_set}

abbrev pub operand_set : PointsOf → ℕ → Operand → List ℕ
operand_set P m (Slot n) = slot_set P m n
operand_set P m (Literal v) = []

abbrev pub reads_of : PointsOf → ℕ → Word → List ℕ
reads_of P m (w.Get to a class field) = operand_set P m a
reads_of P m (w.Load to a i) = operand_set P m a
reads_of P m (w.Next to a) = operand_set P m a
reads_of P m (w.Long to a i) = operand_set P m a
reads_of P m (w.Text to a i) = operand_set P m a
reads_of P m _ = []

abbrev pub writes_of : PointsOf → ℕ → Word → List ℕ
writes_of P m (w.Put a class field x) = operand_set P m a
writes_of P m (w.Store a i x) = operand_set P m a
writes_of P m (w.Next to a) = operand_set P m a
writes_of P m (w.Query to statement site params) = site ∷ []
writes_of P m _ = []

abbrev pub part_of_word : Word → Part
part_of_word (w.Get to a class field) = Field field
part_of_word (w.Put a class field x) = Field field
part_of_word _ = Elements

-- exactly the pairs of each statement, in rising order
pub record AreTouchedByWord (code : Code) (P : PointsOf) : Type 0 where
  pub reads : (m node s : ℕ) (word : Word) (part : Part) → HasStatement code m node word → Both (At (reads_of P m word) s × (part_of_word word ≡ part)) (ReadsPart code m word s part)
  pub writes : (m node s : ℕ) (word : Word) (part : Part) → HasStatement code m node word → Both (At (writes_of P m word) s × (part_of_word word ≡ part)) (WritesPart code m word s part)
  pub reads_rise : (m node : ℕ) (word : Word) → HasStatement code m node word → Rises (reads_of P m word)
  pub writes_rise : (m node : ℕ) (word : Word) → HasStatement code m node word → Rises (writes_of P m word)
