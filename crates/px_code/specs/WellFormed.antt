-- Code whose slots and fields are there, and whose methods end in a return: what lowering makes, and what a plan is made of.
use Rattle.std.specs.Prelude.{◌≡◌, ℕ, ◌+◌, ◌<◌, ◌≤◌, ◌^◌, Bool, true, false, List, [], ◌∷◌, length, Option, Some, None, is_some, slice_get}
use Rattle.std.specs.List.{AllByRecursion}
use Rattle.px_value.specs.declared.value.Value.{Value}
use Rattle.px_value.specs.declared.value.Value.TheVariants.{Text, Ref}
use Rattle.px_value.specs.declared.ty.Ty.{Ty}
use Rattle.px_value.specs.Heap.{max_counted}
use Rattle.px_code.specs.declared.word.Operand.{Operand}
use Rattle.px_code.specs.declared.word.Operand.TheVariants.{Slot, Literal}
use Rattle.px_code.specs.declared.word.Word.{Word}
use Rattle.px_code.specs.declared.word.Word.TheVariants as w
use Rattle.px_code.specs.declared.class.Field.{Field}
use Rattle.px_code.specs.declared.method.Method.{Method}
use Rattle.px_code.specs.declared.method.Tree.{Tree}
use Rattle.px_code.specs.declared.method.Tree.TheVariants.{Do}
use Rattle.px_code.specs.declared.code.Code.{Code}
use Rattle.px_code.specs.Places.{fields_in}
use Rattle.px_code.specs.Machine.{is_return}

-- the fields of the one class of which there are objects
abbrev pub main_fields : Code → List Field
main_fields code = fields_in (slice_get code.classes code.main)

-- ---- words

-- a number, a truth or null: no literal of today's language is a text, and none is ever a reference
abbrev pub IsPlainValue : Value → Type 0
IsPlainValue (Text t) = ⊥
IsPlainValue (Ref target) = ⊥
IsPlainValue v = Unit {0}

-- one of the first n slots, or a literal
abbrev pub IsOperandOf : ℕ → Operand → Type 0
IsOperandOf n (Slot k) = k < n
IsOperandOf n (Literal v) = IsPlainValue v

abbrev pub IsOperandIf : ℕ → Option Operand → Type 0
IsOperandIf n None = Unit {0}
IsOperandIf n (Some a) = IsOperandOf n a

-- a field of Main
abbrev pub IsFieldOfMain : Code → (class field : ℕ) → Type 0
IsFieldOfMain code class field = (class ≡ code.main) × (field < length (main_fields code))

-- a word of a method with n slots
abbrev pub IsWordOf : Code → ℕ → Word → Type 0
IsWordOf code n (w.Set to a) = (to < n) × IsOperandOf n a
IsWordOf code n (w.Op op to a b) = (to < n) × IsOperandOf n a × IsOperandIf n b
IsWordOf code n (w.Get to of class field) = (to < n) × IsOperandOf n of × IsFieldOfMain code class field
IsWordOf code n (w.Put of class field a) = IsOperandOf n of × IsOperandOf n a × IsFieldOfMain code class field
IsWordOf code n (w.Return a) = IsOperandIf n a

abbrev pub IsTreeOf : Code → ℕ → Tree → Type 0
IsTreeOf code n (Do node word) = IsWordOf code n word

-- ---- methods

-- the last statement is a return; `before` tells it of those before
abbrev pub ends_in_return : Bool → List Tree → Bool
ends_in_return before [] = before
ends_in_return before (Do node word ∷ trees) = ends_in_return (is_return word) trees

-- a frame has at most 65,536 slots, since a message tells each by 16 bits
abbrev pub HasFewSlots : Method → Type 0
HasFewSlots m = length m.slots ≤ 2 ^ 16

pub record IsMethodOf (code : Code) (m : Method) : Type 0 where
  pub words : AllByRecursion (IsTreeOf code (length m.slots)) m.body
  pub ends : ends_in_return false m.body ≡ true
  -- for `this` and the arguments
  pub room : m.params + 1 ≤ length m.slots

-- a return has a value where the method has a type for it
abbrev pub ReturnsAs : Option Ty → Tree → Type 0
ReturnsAs gives (Do node (w.Return a)) = is_some a ≡ is_some gives
ReturnsAs gives (Do node word) = Unit {0}

abbrev pub RepliesAsDeclared : Method → Type 0
RepliesAsDeclared m = AllByRecursion (ReturnsAs m.gives) m.body

-- ---- code

pub record IsWellFormed (code : Code) : Type 0 where
  -- no statement allocates yet
  pub no_sites : code.sites ≡ []
  pub small_main : length (main_fields code) < max_counted
  pub methods : AllByRecursion (IsMethodOf code) code.methods
  pub few_slots : AllByRecursion HasFewSlots code.methods
  pub replies : AllByRecursion RepliesAsDeclared code.methods
