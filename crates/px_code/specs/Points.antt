-- Which sites the references in a slot or a part may come from: the least sets that the statements ask for (Andersen, 1994).
use Rattle.std.specs.Prelude.{◌≡◌, ℕ, true, Some, Contains}
use Rattle.px_code.specs.declared.cell.Part.{Part}
use Rattle.px_code.specs.declared.cell.Part.TheVariants.{Field}
use Rattle.px_code.specs.declared.word.Operand.{Operand}
use Rattle.px_code.specs.declared.word.Operand.TheVariants.{Slot}
use Rattle.px_code.specs.declared.word.Word.{Word}
use Rattle.px_code.specs.declared.word.Word.TheVariants as w
use Rattle.px_code.specs.declared.method.Method.{Method}
use Rattle.px_code.specs.declared.method.Tree.TheVariants.{Do}
use Rattle.px_code.specs.declared.code.Code.{Code}
use Rattle.px_code.specs.CodeRun.{method_at}

-- a method of the code
pub record IsMethod (code : Code) (number : ℕ) (method : Method) : Type 0 where
  pub is : method_at code.methods number ≡ Some method

-- a statement of a method, by its node
pub record HasStatement (code : Code) (number node : ℕ) (word : Word) : Type 0 where
  pub method : Method
  pub is : IsMethod code number method
  pub has : Contains method.body (Do node word)

-- a slot of a method, or a part of the objects of a site
pub data Place : Type 0 where
  InSlot : (method slot : ℕ) → Place
  InPart : (site : ℕ) → Part → Place

-- the place may hold a reference to an object of the site
pub data PointsTo (code : Code) : Place → ℕ → Type 0 where
  this : {m : ℕ} {method : Method} → IsMethod code m method → method.entry ≡ true → PointsTo code (InSlot m 0) 0
  copied : {m node to from s : ℕ} → HasStatement code m node (w.Set to (Slot from)) → PointsTo code (InSlot m from) s → PointsTo code (InSlot m to) s
  got : {m node to of class field s t : ℕ} → HasStatement code m node (w.Get to (Slot of) class field) → PointsTo code (InSlot m of) s → PointsTo code (InPart s (Field field)) t → PointsTo code (InSlot m to) t
  put : {m node of class field value s t : ℕ} → HasStatement code m node (w.Put (Slot of) class field (Slot value)) → PointsTo code (InSlot m of) s → PointsTo code (InSlot m value) t → PointsTo code (InPart s (Field field)) t

-- ---- what a statement reads and writes, as parts of the objects of sites

pub data ReadsPart (code : Code) (m : ℕ) : Word → ℕ → Part → Type 0 where
  get : {to of class field s : ℕ} → PointsTo code (InSlot m of) s → ReadsPart code m (w.Get to (Slot of) class field) s (Field field)

pub data WritesPart (code : Code) (m : ℕ) : Word → ℕ → Part → Type 0 where
  put : {of class field s : ℕ} {value : Operand} → PointsTo code (InSlot m of) s → WritesPart code m (w.Put (Slot of) class field value) s (Field field)
