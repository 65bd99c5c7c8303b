-- That the least sets of the constraints of code whose numbers exist are those of points-to, wherever slots and parts have numbers of their own.
use Rattle.std.specs.Prelude.{◌≡◌, ◌<◌, ℕ, List, [], Option, Some, None}
use Rattle.px_normal.specs.declared.ty.Ty.{Ty}
use Rattle.px_constraints.specs.declared.system.Cells.{Cells}
use Rattle.px_constraints.specs.Systems.{System, with_constraints, no_constraints}
use Rattle.px_constraints.specs.System.{At, cell_of, Derives}
use Rattle.px_constraints.specs.Search.{items_at}
use Rattle.px_constraints.specs.Sets.{Rises}
use Rattle.px_flow_points.specs.declared.part.Part.{Part}
use Rattle.px_flow_points.specs.declared.part.Part.TheVariants.{Field, Elements}
use Rattle.px_normal.specs.declared.method.Method.{Method}
use Rattle.px_normal.specs.declared.code.Code.{Code}
use Rattle.px_flow_points.specs.Places.{HasPart, HasSlot, slot_ty}
use Rattle.px_flow_points.specs.There.{NumbersExist}
use Rattle.px_flow_points.specs.Statements.{IsMethod}
use Rattle.px_flow_points.specs.Points.{InSlot, InPart, PointsTo}
use Rattle.px_flow_points.specs.Numbers.{slot_var, result_var}
use Rattle.px_flow_points.specs.Constraints.{methods_constraints}
use Rattle.px_flow_points.specs.Laws.{Both}

abbrev pub part_number : Part → ℕ
part_number (Field place) = place
part_number Elements = 0

-- slots, results and parts that are there have variables below n, each its own
pub record AreNumbered (code : Code) (bases : List ℕ) (parts : List Cells) (n : ℕ) : Type 0 where
  pub slot_below : (m i : ℕ) (t : Ty) → slot_ty code m i ≡ Some t → slot_var bases m i < n
  pub result_below : (m : ℕ) (method : Method) → IsMethod code m method → result_var bases m < n
  pub part_there : (s : ℕ) (part : Part) → HasPart code s part → (c : ℕ) × (cell_of parts s (part_number part) ≡ Some c)
  pub slot_slot : (m i j k : ℕ) (t u : Ty) → slot_ty code m i ≡ Some t → slot_ty code j k ≡ Some u → slot_var bases m i ≡ slot_var bases j k → (m ≡ j) × (i ≡ k)
  pub slot_result : (m i j : ℕ) (t : Ty) (method : Method) → slot_ty code m i ≡ Some t → IsMethod code j method → slot_var bases m i ≡ result_var bases j → ⊥
  pub slot_part : (m i s q : ℕ) (t : Ty) → slot_ty code m i ≡ Some t → cell_of parts s q ≡ Some (slot_var bases m i) → ⊥
  pub result_result : (m j : ℕ) (a b : Method) → IsMethod code m a → IsMethod code j b → result_var bases m ≡ result_var bases j → m ≡ j
  pub result_part : (m s q : ℕ) (a : Method) → IsMethod code m a → cell_of parts s q ≡ Some (result_var bases m) → ⊥
  pub part_part : (s q r p c : ℕ) → cell_of parts s q ≡ Some c → cell_of parts r p ≡ Some c → (s ≡ r) × (q ≡ p)

abbrev pub system_of : Code → List ℕ → List Cells → ℕ → System
system_of code bases parts n = with_constraints (methods_constraints bases 1 code.methods) (no_constraints n parts)

pub record AreExact (code : Code) (bases : List ℕ) (parts : List Cells) (n : ℕ) : Type 0 where
  pub slots : (m i s : ℕ) → HasSlot code m i → Both (Derives (system_of code bases parts n) (slot_var bases m i) s) (PointsTo code (InSlot m i) s)
  pub parts_of : (r c s : ℕ) (part : Part) → HasPart code r part → cell_of parts r (part_number part) ≡ Some c → Both (Derives (system_of code bases parts n) c s) (PointsTo code (InPart r part) s)

abbrev pub DerivesExactly : Type 0
DerivesExactly = (code : Code) (bases : List ℕ) (parts : List Cells) (n : ℕ) → NumbersExist code → AreNumbered code bases parts n → AreExact code bases parts n

-- ---- the sets that are kept

pub record PointsOf : Type 0 where
  pub bases : List ℕ
  pub cells : List Cells
  pub sets : List (List ℕ)

abbrev pub slot_set : PointsOf → ℕ → ℕ → List ℕ
slot_set P m i = items_at P.sets (slot_var P.bases m i)

abbrev pub set_of_cell : PointsOf → Option ℕ → List ℕ
set_of_cell P None = []
set_of_cell P (Some c) = items_at P.sets c

abbrev pub cell_set : PointsOf → ℕ → Part → List ℕ
cell_set P site part = set_of_cell P (cell_of P.cells site (part_number part))

-- of each slot and part that is there exactly the sites that points-to has, in rising order
pub record ArePoints (code : Code) (P : PointsOf) : Type 0 where
  pub slots : (m i s : ℕ) → HasSlot code m i → Both (At (slot_set P m i) s) (PointsTo code (InSlot m i) s)
  pub parts : (r s : ℕ) (part : Part) → HasPart code r part → Both (At (cell_set P r part) s) (PointsTo code (InPart r part) s)
  pub slots_rise : (m i : ℕ) → HasSlot code m i → Rises (slot_set P m i)
  pub parts_rise : (r : ℕ) (part : Part) → HasPart code r part → Rises (cell_set P r part)
