-- Reading a line from left to right. A part is read as a value and the bytes behind it.
use Rattle.std.specs.Prelude.{◌≡◌, ℕ, zero, suc, ◌==◌, ◌^◌, ◌%◌, ℤ, pos, negsuc, int_le, nat_le, nat_lt, Bool, true, false, ◌&&◌, ◌||◌, List, [], ◌∷◌, length, codes, decimal, Option, Some, None, Result, Ok, Err, if◌then◌else◌}
use Rattle.std.specs.Option.{option_map}
use Rattle.std.specs.Fmt.{signed_decimal}
use Rattle.std.specs.Str.{bytes_eq}
use Rattle.px_outside.specs.Numbers.{u64_of, i64_of}
use Rattle.px_value.specs.declared.value.Value.{Value}
use Rattle.px_value.specs.declared.value.Value.TheVariants.{Int, Long, Bool as Truth, Text, Null, Ref}
use Rattle.px_value.specs.declared.op.Op.{Op}
use Rattle.px_value.specs.declared.op.Op.TheVariants as op
use Rattle.px_value.specs.Limits.{max_text}
use Rattle.px_normal.specs.declared.word.Operand.{Operand}
use Rattle.px_normal.specs.declared.word.Operand.TheVariants.{Slot, Literal}
use Rattle.px_blocks.specs.declared.side.Side.{Side}
use Rattle.px_blocks.specs.declared.side.Side.TheVariants.{App, Db}
use Rattle.px_blocks.specs.declared.block.SendKind.{SendKind}
use Rattle.px_blocks.specs.declared.block.SendKind.TheVariants as kind
use Rattle.px_lex.specs.Names.{is_identifier}
use Rattle.px_pyxil.specs.declared.names.Member.{Member}
use Rattle.px_pyxil.specs.declared.names.Element.{Element}
use Rattle.px_pyxil.specs.declared.names.Element.TheVariants as element
use Rattle.px_pyxil.specs.declared.word.Word.{Word}
use Rattle.px_pyxil.specs.declared.word.Word.TheVariants as w
use Rattle.px_pyxil.specs.declared.line.Line.{Line}
use Rattle.px_pyxil.specs.declared.line.Line.TheVariants as line
use Rattle.px_pyxil_reader.specs.Fitting.{is_class}
use Rattle.px_pyxil_reader.specs.declared.unread.Unread.{Unread}
use Rattle.px_pyxil_reader.specs.declared.unread.Unread.TheVariants.{NoLine, NoMemory}
use Rattle.px_pyxil_reader.specs.declared.texts.Step.{Step}
use Rattle.px_pyxil_reader.specs.declared.texts.Step.TheVariants as step
use Rattle.px_pyxil_reader.specs.declared.verbs.Verb.{Verb}
use Rattle.px_pyxil_reader.specs.declared.verbs.Verb.TheVariants as verb

infixl 10 ◌>>=◌
abbrev pub ◌>>=◌ : {A B : Type 0} → Option A → (A → Option B) → Option B
(Some x) >>= f = f x
None >>= f = None

-- What a function returned, seen by view, is what reading gives, unless memory ran out.
abbrev pub Fails : {Y : Type 0} → Unread → Option Y → Type 0
Fails NoMemory read = Unit {0}
Fails NoLine read = read ≡ None

abbrev pub Gives : {X Y : Type 0} → (X → Y) → Result X Unread → Option Y → Type 0
Gives view (Ok x) read = read ≡ Some (view x)
Gives view (Err e) read = Fails e read

-- ---- words

-- what stands before the first of these bytes, and the rest
abbrev pub cut_at : ℕ → List ℕ → List ℕ × List ℕ
cut_at byte [] = ([], [])
cut_at byte (first ∷ rest) = if first == byte then ([], first ∷ rest) else (first ∷ (cut_at byte rest).0, (cut_at byte rest).1)

-- a word behind a space
unfoldable pub word_at : List ℕ → Option (List ℕ × List ℕ)
word_at [] = None
word_at (byte ∷ rest) = if byte == 32 then Some (cut_at 32 rest) else None

abbrev pub is_end : List ℕ → Bool
is_end [] = true
is_end _ = false

-- the end of the line
abbrev pub end_at : List ℕ → Option (Unit {0})
end_at rest = if is_end rest then Some tt else None

-- what all of a word is, with the bytes behind the word
abbrev pub of_word : {A : Type 0} → (List ℕ → Option A) → List ℕ → Option (A × List ℕ)
of_word read bytes = word_at bytes >>= λ word. read word.0 >>= λ a. Some (a, word.1)

-- ---- numbers, which have one spelling each

abbrev pub number_of : ℕ → List ℕ → Option ℕ
number_of limit word = u64_of word >>= λ n. if bytes_eq (decimal (n % limit)) word then Some (n % limit) else None

unfoldable pub u16_of : List ℕ → Option ℕ
u16_of word = number_of 65536 word

unfoldable pub u32_of : List ℕ → Option ℕ
u32_of word = number_of 4294967296 word

unfoldable pub long_of : List ℕ → Option ℤ
long_of word = i64_of word >>= λ n. if bytes_eq (signed_decimal n) word then Some n else None

unfoldable pub int_of : List ℕ → Option ℤ
int_of word = long_of word >>= λ n. if int_le (negsuc 2147483647) n && int_le n (pos 2147483647) then Some n else None

-- a number behind a mark
abbrev pub marked : ℕ → (List ℕ → Option ℕ) → List ℕ → Option ℕ
marked mark number [] = None
marked mark number (byte ∷ digits) = if byte == mark then number digits else None

unfoldable pub slot_of : List ℕ → Option ℕ
slot_of word = marked 37 u16_of word

unfoldable pub slot_or_none_of : List ℕ → Option (Option ℕ)
slot_or_none_of word = if bytes_eq word (codes "-") then Some None else option_map Some (slot_of word)

-- ---- names

unfoldable pub side_of : List ℕ → Option Side
side_of word =
    if bytes_eq word (codes "APP") then Some App else
    if bytes_eq word (codes "DB") then Some Db else None

unfoldable pub class_of : List ℕ → Option (List ℕ)
class_of word = if is_class word then Some word else None

-- a class, and a dot with a name
abbrev pub dotted : List ℕ → List ℕ → Option Member
dotted class [] = None
dotted class (dot ∷ name) = if is_class class && is_identifier name then Some (record { class = class; name = name }) else None

unfoldable pub member_of : List ℕ → Option Member
member_of word = dotted (cut_at 46 word).0 (cut_at 46 word).1

unfoldable pub element_of : List ℕ → Option Element
element_of word =
    if bytes_eq word (codes "int") then Some element.Int else
    if bytes_eq word (codes "long") then Some element.Long else
    if bytes_eq word (codes "boolean") then Some element.Bool else
    if bytes_eq word (codes "String") then Some element.Text else
    option_map element.Object (class_of word)

unfoldable pub op_of : List ℕ → Option Op
op_of word =
    if bytes_eq word (codes "add") then Some op.Add else
    if bytes_eq word (codes "sub") then Some op.Sub else
    if bytes_eq word (codes "mul") then Some op.Mul else
    if bytes_eq word (codes "div") then Some op.Div else
    if bytes_eq word (codes "rem") then Some op.Rem else
    if bytes_eq word (codes "and") then Some op.And else
    if bytes_eq word (codes "or") then Some op.Or else
    if bytes_eq word (codes "xor") then Some op.Xor else
    if bytes_eq word (codes "shl") then Some op.Shl else
    if bytes_eq word (codes "shr") then Some op.Shr else
    if bytes_eq word (codes "ushr") then Some op.Ushr else
    if bytes_eq word (codes "lt") then Some op.Lt else
    if bytes_eq word (codes "le") then Some op.Le else
    if bytes_eq word (codes "gt") then Some op.Gt else
    if bytes_eq word (codes "ge") then Some op.Ge else
    if bytes_eq word (codes "eq") then Some op.Eq else
    if bytes_eq word (codes "ne") then Some op.Ne else
    if bytes_eq word (codes "neg") then Some op.Neg else
    if bytes_eq word (codes "inv") then Some op.Inv else
    if bytes_eq word (codes "not") then Some op.Not else
    if bytes_eq word (codes "widen") then Some op.Widen else
    if bytes_eq word (codes "narrow") then Some op.Narrow else
    if bytes_eq word (codes "concat") then Some op.Concat else
    if bytes_eq word (codes "equals") then Some op.Equals else
    if bytes_eq word (codes "length") then Some op.Length else None

-- ---- operands

-- what the byte behind a backslash stands for
abbrev pub escape_of : ℕ → Step
escape_of byte =
    if byte == 110 then step.Byte 10 else
    if byte == 116 then step.Byte 9 else
    if (byte == 34) || (byte == 92) then step.Byte byte else step.Broken

-- what a byte is to the text, right behind a backslash or not: one that has an escape stands for nothing without it
abbrev pub step_of : Bool → ℕ → Step
step_of true byte = escape_of byte
step_of false byte =
    if byte == 34 then step.Close else
    if byte == 92 then step.Backslash else
    if (byte == 9) || (byte == 10) then step.Broken else
    if nat_lt byte 128 then step.Byte byte else step.Broken

abbrev pub with_byte : ℕ → List ℕ × List ℕ → List ℕ × List ℕ
with_byte byte text = (byte ∷ text.0, text.1)

-- the text, by what the first byte is, what stands behind it, and the text of that right behind a backslash and else
abbrev pub stepped : Step → List ℕ → Option (List ℕ × List ℕ) → Option (List ℕ × List ℕ) → Option (List ℕ × List ℕ)
stepped (step.Byte byte) rest behind_backslash plain = option_map (with_byte byte) plain
stepped step.Backslash rest behind_backslash plain = behind_backslash
stepped step.Close rest behind_backslash plain = Some ([], rest)
stepped step.Broken rest behind_backslash plain = None

-- the text up to the closing quote, and what stands behind that
abbrev pub text_from : Bool → List ℕ → Option (List ℕ × List ℕ)
text_from escaped [] = None
text_from escaped (byte ∷ rest) = stepped (step_of escaped byte) rest (text_from true rest) (text_from false rest)

-- a short text behind an opening quote
unfoldable pub text_at : List ℕ → Option (Operand × List ℕ)
text_at bytes = text_from false bytes >>= λ text. if nat_le (length text.0) max_text then Some (Literal (Text text.0), text.1) else None

-- an int, or a long, by what stands before an `L` and from there on
abbrev pub number_by : List ℕ → List ℕ → Option Value
number_by digits [] = option_map Int (int_of digits)
number_by digits (mark ∷ []) = option_map Long (long_of digits)
number_by digits (mark ∷ byte ∷ rest) = None

-- a literal that isn't a text
unfoldable pub literal_of : List ℕ → Option Value
literal_of word =
    if bytes_eq word (codes "true") then Some (Truth true) else
    if bytes_eq word (codes "false") then Some (Truth false) else
    if bytes_eq word (codes "null") then Some Null else
    number_by (cut_at 76 word).0 (cut_at 76 word).1

abbrev pub by_mark : List ℕ → Option Operand
by_mark [] = None
by_mark (mark ∷ digits) =
    if mark == 37 then option_map Slot (u16_of digits) else
    if mark == 35 then option_map (λ place. Literal (Ref place)) (u32_of digits) else
    option_map Literal (literal_of (mark ∷ digits))

unfoldable pub plain_operand_of : List ℕ → Option Operand
plain_operand_of word = by_mark word

abbrev pub quoted_or_plain : List ℕ → List ℕ → Option (Operand × List ℕ)
quoted_or_plain bytes [] = None
quoted_or_plain bytes (first ∷ []) = of_word plain_operand_of bytes
quoted_or_plain bytes (first ∷ second ∷ rest) = if (first == 32) && (second == 34) then text_at rest else of_word plain_operand_of bytes

unfoldable pub operand_at : List ℕ → Option (Operand × List ℕ)
operand_at bytes = quoted_or_plain bytes bytes

-- ---- parts

unfoldable pub u16_at : List ℕ → Option (ℕ × List ℕ)
u16_at bytes = of_word u16_of bytes

unfoldable pub u32_at : List ℕ → Option (ℕ × List ℕ)
u32_at bytes = of_word u32_of bytes

unfoldable pub slot_at : List ℕ → Option (ℕ × List ℕ)
slot_at bytes = of_word slot_of bytes

unfoldable pub slot_or_none_at : List ℕ → Option (Option ℕ × List ℕ)
slot_or_none_at bytes = of_word slot_or_none_of bytes

unfoldable pub side_at : List ℕ → Option (Side × List ℕ)
side_at bytes = of_word side_of bytes

unfoldable pub class_at : List ℕ → Option (List ℕ × List ℕ)
class_at bytes = of_word class_of bytes

unfoldable pub member_at : List ℕ → Option (Member × List ℕ)
member_at bytes = of_word member_of bytes

unfoldable pub element_at : List ℕ → Option (Element × List ℕ)
element_at bytes = of_word element_of bytes

unfoldable pub op_at : List ℕ → Option (Op × List ℕ)
op_at bytes = of_word op_of bytes

-- the last operand
unfoldable pub operand_of : List ℕ → Option Operand
operand_of bytes = do
  value ← operand_at bytes
  _ ← end_at value.1
  Some value.0

-- the last operand, if there is one
abbrev pub operand_if : List ℕ → Option (Option Operand)
operand_if [] = Some None
operand_if (byte ∷ rest) = option_map Some (operand_of (byte ∷ rest))

-- the operands up to the end, in at most so many turns as the list has items
abbrev pub operands_in : List ℕ → List ℕ → Option (List Operand)
operands_in [] bytes = if is_end bytes then Some [] else None
operands_in (turn ∷ turns) [] = Some []
operands_in (turn ∷ turns) (byte ∷ rest) = operand_at (byte ∷ rest) >>= λ operand. option_map (λ more. operand.0 ∷ more) (operands_in turns operand.1)

unfoldable pub operands_to_end : List ℕ → Option (List Operand)
operands_to_end bytes = operands_in bytes bytes

-- ---- statements

unfoldable pub verb_of : List ℕ → Option Verb
verb_of word =
    if bytes_eq word (codes "set") then Some verb.Set else
    if bytes_eq word (codes "op") then Some verb.Op else
    if bytes_eq word (codes "get") then Some verb.Get else
    if bytes_eq word (codes "put") then Some verb.Put else
    if bytes_eq word (codes "load") then Some verb.Load else
    if bytes_eq word (codes "store") then Some verb.Store else
    if bytes_eq word (codes "len") then Some verb.Len else
    if bytes_eq word (codes "new") then Some verb.New else
    if bytes_eq word (codes "array") then Some verb.Array else
    if bytes_eq word (codes "call") then Some verb.Call else
    if bytes_eq word (codes "query") then Some verb.Query else
    if bytes_eq word (codes "update") then Some verb.Update else
    if bytes_eq word (codes "next") then Some verb.Next else
    if bytes_eq word (codes "long") then Some verb.Long else
    if bytes_eq word (codes "text") then Some verb.Text else
    if bytes_eq word (codes "print") then Some verb.Print else
    if bytes_eq word (codes "return") then Some verb.Return else None
