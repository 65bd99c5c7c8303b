-- Reading a statement from left to right.
use Rattle.std.specs.Prelude.{ℕ, List, Option, Some, None}
use Rattle.px_normal.specs.declared.word.Operand.{Operand}
use Rattle.px_pyxil.specs.declared.word.Word.{Word}
use Rattle.px_pyxil.specs.declared.word.Word.TheVariants as w
use Rattle.px_pyxil_reader.specs.declared.verbs.Verb.{Verb}
use Rattle.px_pyxil_reader.specs.declared.verbs.Verb.TheVariants as verb
use Rattle.px_pyxil_reader.specs.Reading.{◌>>=◌, end_at, u16_at, slot_at, slot_or_none_at, class_at, member_at, element_at, op_at, operand_at, operand_of, operand_if, operands_to_end}

-- a slot and an operand
abbrev pub slot_and_operand : (ℕ → Operand → Word) → List ℕ → Option Word
slot_and_operand make bytes = do
  to ← slot_at bytes
  of ← operand_at to.1
  _ ← end_at of.1
  Some (make to.0 of.0)

-- a slot and two operands
abbrev pub slot_and_two : (ℕ → Operand → Operand → Word) → List ℕ → Option Word
slot_and_two make bytes = do
  to ← slot_at bytes
  of ← operand_at to.1
  other ← operand_at of.1
  _ ← end_at other.1
  Some (make to.0 of.0 other.0)

unfoldable pub set_of : List ℕ → Option Word
set_of bytes = slot_and_operand w.Set bytes

unfoldable pub op_statement_of : List ℕ → Option Word
op_statement_of bytes = do
  op ← op_at bytes
  to ← slot_at op.1
  left ← operand_at to.1
  right ← operand_if left.1
  Some (w.Op op.0 to.0 left.0 right)

unfoldable pub get_of : List ℕ → Option Word
get_of bytes = do
  to ← slot_at bytes
  of ← operand_at to.1
  field ← member_at of.1
  _ ← end_at field.1
  Some (w.Get to.0 of.0 field.0)

unfoldable pub put_of : List ℕ → Option Word
put_of bytes = do
  of ← operand_at bytes
  field ← member_at of.1
  value ← operand_at field.1
  _ ← end_at value.1
  Some (w.Put of.0 field.0 value.0)

unfoldable pub load_of : List ℕ → Option Word
load_of bytes = slot_and_two w.Load bytes

unfoldable pub store_of : List ℕ → Option Word
store_of bytes = do
  of ← operand_at bytes
  index ← operand_at of.1
  value ← operand_at index.1
  _ ← end_at value.1
  Some (w.Store of.0 index.0 value.0)

unfoldable pub len_of : List ℕ → Option Word
len_of bytes = slot_and_operand w.Len bytes

unfoldable pub new_of : List ℕ → Option Word
new_of bytes = do
  to ← slot_at bytes
  class ← class_at to.1
  site ← u16_at class.1
  _ ← end_at site.1
  Some (w.New to.0 class.0 site.0)

unfoldable pub array_of : List ℕ → Option Word
array_of bytes = do
  to ← slot_at bytes
  element ← element_at to.1
  length ← operand_at element.1
  site ← u16_at length.1
  _ ← end_at site.1
  Some (w.Array to.0 element.0 length.0 site.0)

unfoldable pub call_of : List ℕ → Option Word
call_of bytes = do
  to ← slot_or_none_at bytes
  of ← operand_at to.1
  method ← member_at of.1
  args ← operands_to_end method.1
  Some (w.Call to.0 of.0 method.0 args)

unfoldable pub query_of : List ℕ → Option Word
query_of bytes = do
  to ← slot_at bytes
  statement ← u16_at to.1
  site ← u16_at statement.1
  params ← operands_to_end site.1
  Some (w.Query to.0 statement.0 site.0 params)

unfoldable pub update_of : List ℕ → Option Word
update_of bytes = do
  to ← slot_at bytes
  statement ← u16_at to.1
  params ← operands_to_end statement.1
  Some (w.Update to.0 statement.0 params)

unfoldable pub next_of : List ℕ → Option Word
next_of bytes = slot_and_operand w.Next bytes

unfoldable pub long_column_of : List ℕ → Option Word
long_column_of bytes = slot_and_two w.Long bytes

unfoldable pub text_column_of : List ℕ → Option Word
text_column_of bytes = slot_and_two w.Text bytes

unfoldable pub print_of : List ℕ → Option Word
print_of bytes = do
  value ← operand_of bytes
  Some (w.Print value)

unfoldable pub return_of : List ℕ → Option Word
return_of bytes = do
  value ← operand_if bytes
  Some (w.Return value)

-- what a word says that the statement is, and what stands behind it
abbrev pub word_behind : Verb → List ℕ → Option Word
word_behind verb.Set bytes = set_of bytes
word_behind verb.Op bytes = op_statement_of bytes
word_behind verb.Get bytes = get_of bytes
word_behind verb.Put bytes = put_of bytes
word_behind verb.Load bytes = load_of bytes
word_behind verb.Store bytes = store_of bytes
word_behind verb.Len bytes = len_of bytes
word_behind verb.New bytes = new_of bytes
word_behind verb.Array bytes = array_of bytes
word_behind verb.Call bytes = call_of bytes
word_behind verb.Query bytes = query_of bytes
word_behind verb.Update bytes = update_of bytes
word_behind verb.Next bytes = next_of bytes
word_behind verb.Long bytes = long_column_of bytes
word_behind verb.Text bytes = text_column_of bytes
word_behind verb.Print bytes = print_of bytes
word_behind verb.Return bytes = return_of bytes
