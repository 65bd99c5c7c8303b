-- Which sites the references in a slot or a part may come from: the least sets that the statements ask for (Andersen, 1994).
use Rattle.std.specs.Prelude.{◌≡◌, ℕ, true, List, ◌∷◌, Option, Some, slice_get}
use Rattle.px_flow_points.specs.declared.part.Part.{Part}
use Rattle.px_flow_points.specs.declared.part.Part.TheVariants.{Field, Elements}
use Rattle.px_normal.specs.declared.word.Operand.{Operand}
use Rattle.px_normal.specs.declared.word.Operand.TheVariants.{Slot}
use Rattle.px_normal.specs.declared.word.Word.{Word}
use Rattle.px_normal.specs.declared.word.Word.TheVariants as w
use Rattle.px_normal.specs.declared.method.Method.{Method}
use Rattle.px_normal.specs.declared.code.Code.{Code}
use Rattle.px_flow_points.specs.Statements.{IsMethod, HasStatement}

-- a slot of a method, or a part of the objects of a site
pub data Place : Type 0 where
  InSlot : (method slot : ℕ) → Place
  InPart : (site : ℕ) → Part → Place

-- the place may hold a reference to an object of the site
pub data PointsTo (code : Code) : Place → ℕ → Type 0 where
  this : {m : ℕ} {method : Method} → IsMethod code m method → method.entry ≡ true → PointsTo code (InSlot m 0) 0
  makes_object : {m node to class site : ℕ} → HasStatement code m node (w.New to class site) → PointsTo code (InSlot m to) site
  makes_array : {m node to element site : ℕ} {n : Operand} → HasStatement code m node (w.Array to element n site) → PointsTo code (InSlot m to) site
  makes_rows : {m node to statement site : ℕ} {params : List Operand} → HasStatement code m node (w.Query to statement site params) → PointsTo code (InSlot m to) site
  copied : {m node to from s : ℕ} → HasStatement code m node (w.Set to (Slot from)) → PointsTo code (InSlot m from) s → PointsTo code (InSlot m to) s
  got : {m node to of class field s t : ℕ} → HasStatement code m node (w.Get to (Slot of) class field) → PointsTo code (InSlot m of) s → PointsTo code (InPart s (Field field)) t → PointsTo code (InSlot m to) t
  put : {m node of class field from s t : ℕ} → HasStatement code m node (w.Put (Slot of) class field (Slot from)) → PointsTo code (InSlot m of) s → PointsTo code (InSlot m from) t → PointsTo code (InPart s (Field field)) t
  loaded : {m node to of s t : ℕ} {i : Operand} → HasStatement code m node (w.Load to (Slot of) i) → PointsTo code (InSlot m of) s → PointsTo code (InPart s Elements) t → PointsTo code (InSlot m to) t
  stored : {m node of from s t : ℕ} {i : Operand} → HasStatement code m node (w.Store (Slot of) i (Slot from)) → PointsTo code (InSlot m of) s → PointsTo code (InSlot m from) t → PointsTo code (InPart s Elements) t
  passed : {m node callee k from s : ℕ} {to : Option ℕ} {of : Operand} {args : List Operand} → HasStatement code m node (w.Call to of callee args) → slice_get (of ∷ args) k ≡ Some (Slot from) → PointsTo code (InSlot m from) s → PointsTo code (InSlot callee k) s
  returned : {m node callee at to from s : ℕ} {of : Operand} {args : List Operand} → HasStatement code m node (w.Call (Some to) of callee args) → HasStatement code callee at (w.Return (Some (Slot from))) → PointsTo code (InSlot callee from) s → PointsTo code (InSlot m to) s

-- ---- what a statement reads and writes, as parts of the objects of sites

pub data ReadsPart (code : Code) (m : ℕ) : Word → ℕ → Part → Type 0 where
  get : {to of class field s : ℕ} → PointsTo code (InSlot m of) s → ReadsPart code m (w.Get to (Slot of) class field) s (Field field)
  load : {to of s : ℕ} {i : Operand} → PointsTo code (InSlot m of) s → ReadsPart code m (w.Load to (Slot of) i) s Elements
  next : {to of s : ℕ} → PointsTo code (InSlot m of) s → ReadsPart code m (w.Next to (Slot of)) s Elements
  long : {to of s : ℕ} {i : Operand} → PointsTo code (InSlot m of) s → ReadsPart code m (w.Long to (Slot of) i) s Elements
  text : {to of s : ℕ} {i : Operand} → PointsTo code (InSlot m of) s → ReadsPart code m (w.Text to (Slot of) i) s Elements

pub data WritesPart (code : Code) (m : ℕ) : Word → ℕ → Part → Type 0 where
  put : {of class field s : ℕ} {v : Operand} → PointsTo code (InSlot m of) s → WritesPart code m (w.Put (Slot of) class field v) s (Field field)
  store : {of s : ℕ} {i v : Operand} → PointsTo code (InSlot m of) s → WritesPart code m (w.Store (Slot of) i v) s Elements
  next : {to of s : ℕ} → PointsTo code (InSlot m of) s → WritesPart code m (w.Next to (Slot of)) s Elements
  query : {to statement site : ℕ} {params : List Operand} → WritesPart code m (w.Query to statement site params) site Elements
