-- What each word does.
use Rattle.std.specs.Prelude.{ℕ, Bool, true, false, List, ◌∷◌, map, Option, Some, None, unwrap_or, slice_get, slice_set, Ok, Err}
use Rattle.px_value.specs.declared.value.Value.{Value}
use Rattle.px_value.specs.declared.value.Value.TheVariants.{Bool as Truth, Null, Ref}
use Rattle.px_value.specs.declared.thrown.Thrown.TheVariants.{NullPointerException}
use Rattle.px_value.specs.declared.answer.Answer.{Answer}
use Rattle.px_value.specs.Operators.{apply}
use Rattle.px_effects.specs.Act.{Act, Comes}
use Rattle.px_effects.specs.Cells as cells
use Rattle.px_effects.specs.Cells.{comes, print_line}
use Rattle.px_effects.specs.Rows as rows
use Rattle.px_effects.specs.Rows.{long_in, text_in}
use Rattle.px_effects.specs.Operations.{Work, Acts, operation}
use Rattle.px_normal.specs.declared.code.Code.{Code}
use Rattle.px_normal.specs.declared.word.Operand.{Operand}
use Rattle.px_normal.specs.declared.word.Operand.TheVariants.{Slot, Literal}
use Rattle.px_normal.specs.declared.word.Word.{Word}
use Rattle.px_normal.specs.declared.word.Word.TheVariants as w
use Rattle.px_normal.specs.First.{Slots, fresh_of, statements_of}

-- what a statement does: work of its own, or a call of a method on values
pub data Does : Type 0 where
  Works : Work → Does
  Invokes : (method : ℕ) → List Value → Does

-- ---- operands

abbrev pub operand : Slots → Operand → Value
operand slots (Slot n) = unwrap_or (slice_get slots n) Null
operand slots (Literal v) = v

-- a unary operator has its operand twice
abbrev pub operand_or : Slots → Value → Option Operand → Value
operand_or slots v None = v
operand_or slots v (Some a) = operand slots a

abbrev pub operands : Slots → List Operand → List Value
operands slots xs = map (operand slots) xs

-- ---- words

-- a call of a method on a reference (JLS 15.12.4.4)
abbrev pub invokes_on : Value → ℕ → List Value → Does
invokes_on (Ref object) method values = Invokes method (Ref object ∷ values)
invokes_on _ method values = Works (Acts (Comes (Err NullPointerException)))

abbrev pub acts : Act → Does
acts act = Works (Acts act)

-- what each word does; a word without a value comes to null
abbrev pub does_of : Code → Word → Slots → Does
does_of code (w.Set to a) slots = acts (comes (operand slots a))
does_of code (w.Op op to a b) slots = acts (Comes (apply op (operand slots a) (operand_or slots (operand slots a) b)))
does_of code (w.Get to of class field) slots = acts (cells.get_field (operand slots of) field)
does_of code (w.Put of class field a) slots = acts (cells.put_field (operand slots of) field (operand slots a))
does_of code (w.Load to of index) slots = acts (cells.load (operand slots of) (operand slots index))
does_of code (w.Store of index a) slots = acts (cells.store (operand slots of) (operand slots index) (operand slots a))
does_of code (w.Len to of) slots = acts (cells.array_length (operand slots of))
does_of code (w.New to class site) slots = acts (cells.make_object (fresh_of code) class site)
does_of code (w.Array to element length site) slots = acts (cells.make_array element site (operand slots length))
does_of code (w.Call to of method args) slots = invokes_on (operand slots of) method (operands slots args)
does_of code (w.Query to number site params) slots = Works (operation number (statements_of code number) (operands slots params))
does_of code (w.Update to number params) slots = Works (operation number (statements_of code number) (operands slots params))
does_of code (w.Next to of) slots = acts (rows.next (statements_of code) (operand slots of))
does_of code (w.Long to of column) slots = acts (rows.get_column (statements_of code) long_in (operand slots of) (operand slots column))
does_of code (w.Text to of column) slots = acts (rows.get_column (statements_of code) text_in (operand slots of) (operand slots column))
does_of code (w.Print a) slots = acts (print_line (operand slots a))
does_of code (w.Return None) slots = acts (comes Null)
does_of code (w.Return (Some a)) slots = acts (comes (operand slots a))

-- what a word does with an answer to its question
abbrev pub answer_of : Word → Answer → Act
answer_of (w.Query to number site params) answer = rows.make_rows number site answer
answer_of (w.Update to number params) answer = rows.changed answer
answer_of _ answer = comes Null

-- the slot that gets the value
abbrev pub to_of : Word → Option ℕ
to_of (w.Set to a) = Some to
to_of (w.Op op to a b) = Some to
to_of (w.Get to of class field) = Some to
to_of (w.Put of class field a) = None
to_of (w.Load to of index) = Some to
to_of (w.Store of index a) = None
to_of (w.Len to of) = Some to
to_of (w.New to class site) = Some to
to_of (w.Array to element length site) = Some to
to_of (w.Call to of method args) = to
to_of (w.Query to number site params) = Some to
to_of (w.Update to number params) = Some to
to_of (w.Next to of) = Some to
to_of (w.Long to of column) = Some to
to_of (w.Text to of column) = Some to
to_of (w.Print a) = None
to_of (w.Return a) = None

abbrev pub with_slot : Option ℕ → Value → Slots → Slots
with_slot (Some n) v slots = slice_set slots n v
with_slot None v slots = slots

abbrev pub is_return : Word → Bool
is_return (w.Return a) = true
is_return _ = false

abbrev pub given : {A : Type 0} → Option A → Value → Option Value
given None v = None
given (Some a) v = Some v

-- what a return gives
abbrev pub result_of : Word → Value → Option Value
result_of (w.Return a) v = given a v
result_of _ v = None

-- ---- tests

abbrev pub is_true : Value → Bool
is_true (Truth b) = b
is_true _ = false
