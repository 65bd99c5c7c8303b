-- What one statement asks of the heap, one thing after the other, and what it comes to.
use Rattle.std.specs.Prelude.{ℕ, List, [], ◌∷◌, Option, Some, None, unwrap_or, Ok, Err}
use Rattle.px_value.specs.declared.value.Value.{Value}
use Rattle.px_value.specs.declared.value.Value.TheVariants.{Null, Ref}
use Rattle.px_value.specs.declared.thrown.Thrown.TheVariants.{NullPointerException}
use Rattle.px_value.specs.declared.object.Object.{Object}
use Rattle.px_value.specs.Heap.{cell_at, written}
use Rattle.px_value.specs.Operators.{Applied, apply}
use Rattle.px_code.specs.declared.cell.Cell.{Cell}
use Rattle.px_code.specs.declared.word.Operand.{Operand}
use Rattle.px_code.specs.declared.word.Operand.TheVariants.{Slot, Literal}
use Rattle.px_code.specs.declared.word.Word.{Word}
use Rattle.px_code.specs.declared.word.Word.TheVariants as w

-- A read goes on with the value that it finds, so that nothing of the heap is known but what was asked.
pub data Act : Type 0 where
  Comes : Applied → Act
  Reads : (object index : ℕ) → (Value → Act) → Act
  Writes : (object index : ℕ) → Value → Act → Act

-- the slots of a frame, by number
abbrev pub Slots : Type 0
Slots = ℕ → Value

abbrev pub operand : Slots → Operand → Value
operand slots (Slot n) = slots n
operand slots (Literal v) = v

-- a unary operator has its operand twice
abbrev pub operand_or : Slots → Value → Option Operand → Value
operand_or slots v None = v
operand_or slots v (Some a) = operand slots a

-- the object of a reference (JLS 15.11.1, 15.26.1)
abbrev pub at_object : Value → (ℕ → Act) → Act
at_object (Ref object) f = f object
at_object _ f = Comes (Err NullPointerException)

abbrev pub comes : Value → Act
comes v = Comes (Ok v)

-- what each word does; a word without a value comes to null
abbrev pub act_of : Word → Slots → Act
act_of (w.Set to a) slots = comes (operand slots a)
act_of (w.Op op to a b) slots = Comes (apply op (operand slots a) (operand_or slots (operand slots a) b))
act_of (w.Get to of class field) slots = at_object (operand slots of) (λ object. Reads object field comes)
act_of (w.Put of class field a) slots = at_object (operand slots of) (λ object. Writes object field (operand slots a) (comes Null))
act_of (w.Return None) slots = comes Null
act_of (w.Return (Some a)) slots = comes (operand slots a)

-- the slot that gets the value
abbrev pub slot_of : Word → Option ℕ
slot_of (w.Set to a) = Some to
slot_of (w.Op op to a b) = Some to
slot_of (w.Get to of class field) = Some to
slot_of (w.Put of class field a) = None
slot_of (w.Return a) = None

-- ---- on a heap

-- what an act comes to on a heap, the heap that it leaves, and the cells that it read and wrote
pub record Acted : Type 0 where
  pub ends : Applied
  pub heap : List Object
  pub reads : List Cell
  pub writes : List Cell

abbrev pub value_at : List Object → ℕ → ℕ → Value
value_at heap object index = unwrap_or (cell_at heap object index) Null

abbrev pub acted : Act → List Object → Acted
acted (Comes ends) heap = record { ends = ends; heap = heap; reads = []; writes = [] }
acted (Reads object index k) heap = let after = acted (k (value_at heap object index)) heap in record after { reads = record { object = object; index = index } ∷ after.reads }
acted (Writes object index v k) heap = let after = acted k (written heap object index v) in record after { writes = record { object = object; index = index } ∷ after.writes }
