-- Code whose numbers exist: each slot, method, site and part that its statements name is there.
use Rattle.std.specs.Prelude.{◌≡◌, ◌<◌, ◌-◌, ◌^◌, ℕ, true, length, List, ◌∷◌, Option, Some, None, slice_get}
use Rattle.px_normal.specs.declared.word.Operand.{Operand}
use Rattle.px_normal.specs.declared.word.Operand.TheVariants.{Slot, Literal}
use Rattle.px_normal.specs.declared.word.Word.{Word}
use Rattle.px_normal.specs.declared.word.Word.TheVariants as w
use Rattle.px_normal.specs.declared.method.Method.{Method}
use Rattle.px_normal.specs.declared.code.Code.{Code}
use Rattle.px_flow_points.specs.declared.part.Part.{Part}
use Rattle.px_flow_points.specs.declared.part.Part.TheVariants.{Field, Elements}
use Rattle.px_flow_points.specs.Statements.{IsMethod, HasStatement}
use Rattle.px_flow_points.specs.Places.{HasSite, HasPart, HasSlot}
use Rattle.px_flow_points.specs.Points.{InSlot, PointsTo}

abbrev pub OperandThere : Code → ℕ → Operand → Type 0
OperandThere code m (Slot n) = HasSlot code m n
OperandThere code m (Literal v) = Unit {0}

abbrev pub SlotThere : Code → ℕ → Option ℕ → Type 0
SlotThere code m None = Unit {0}
SlotThere code m (Some n) = HasSlot code m n

-- each operand is there, and the called method has a slot for it
pub record ArgumentsThere (code : Code) (m callee : ℕ) (args : List Operand) : Type 0 where
  pub from : (k : ℕ) (n : ℕ) → slice_get args k ≡ Some (Slot n) → HasSlot code m n
  pub into : (k : ℕ) (n : ℕ) → slice_get args k ≡ Some (Slot n) → HasSlot code callee k

-- what points-to goes by in a word is there
abbrev pub WordThere : Code → ℕ → Word → Type 0
WordThere code m (w.Set to a) = HasSlot code m to × OperandThere code m a
WordThere code m (w.Get to a class field) = HasSlot code m to × OperandThere code m a
WordThere code m (w.Put a class field x) = OperandThere code m a × OperandThere code m x
WordThere code m (w.Load to a i) = HasSlot code m to × OperandThere code m a
WordThere code m (w.Store a i x) = OperandThere code m a × OperandThere code m x
WordThere code m (w.New to class site) = HasSlot code m to × HasSite code site
WordThere code m (w.Array to element n site) = HasSlot code m to × HasSite code site
WordThere code m (w.Query to statement site params) = HasSlot code m to × HasSite code site
WordThere code m (w.Call to a callee args) = (method : Method) × IsMethod code callee method × ArgumentsThere code m callee (a ∷ args) × SlotThere code m to
WordThere code m (w.Next to a) = OperandThere code m a
WordThere code m (w.Long to a i) = OperandThere code m a
WordThere code m (w.Text to a i) = OperandThere code m a
WordThere code m (w.Return (Some a)) = OperandThere code m a
WordThere code m _ = Unit {0}

-- the word looks for a part of the object in a slot
pub data Looks : Word → ℕ → Part → Type 0 where
  get : {to of class field : ℕ} → Looks (w.Get to (Slot of) class field) of (Field field)
  put : {of class field : ℕ} {x : Operand} → Looks (w.Put (Slot of) class field x) of (Field field)
  load : {to of : ℕ} {i : Operand} → Looks (w.Load to (Slot of) i) of Elements
  store : {of : ℕ} {i x : Operand} → Looks (w.Store (Slot of) i x) of Elements

pub record NumbersExist (code : Code) : Type 0 where
  -- methods have numbers of 16 bits
  pub few : length code.methods < 2 ^ 16 - 1
  pub entries : {m : ℕ} {method : Method} → IsMethod code m method → method.entry ≡ true → HasSlot code m 0
  pub words : {m node : ℕ} {word : Word} → HasStatement code m node word → WordThere code m word
  pub parts : {m node of s : ℕ} {word : Word} {part : Part} → HasStatement code m node word → Looks word of part → PointsTo code (InSlot m of) s → HasPart code s part
