-- How the parts of a line are spelled.
use Rattle.std.specs.Prelude.{ℕ, ◌==◌, cond, true, false, List, [], ◌∷◌, ◌++◌, map, codes, decimal, Option, Some, None}
use Rattle.std.specs.List.{flat_map}
use Rattle.std.specs.Fmt.{signed_decimal}
use Rattle.px_value.specs.declared.value.Value.{Value}
use Rattle.px_value.specs.declared.value.Value.TheVariants.{Int, Long, Bool as Truth, Text, Null, Ref}
use Rattle.px_value.specs.declared.op.Op.{Op}
use Rattle.px_value.specs.declared.op.Op.TheVariants as op
use Rattle.px_normal.specs.declared.word.Operand.{Operand}
use Rattle.px_normal.specs.declared.word.Operand.TheVariants.{Slot, Literal}
use Rattle.px_blocks.specs.declared.side.Side.{Side}
use Rattle.px_blocks.specs.declared.side.Side.TheVariants.{App, Db}
use Rattle.px_blocks.specs.declared.block.SendKind.{SendKind}
use Rattle.px_blocks.specs.declared.block.SendKind.TheVariants as kind
use Rattle.px_pyxil.specs.declared.names.Member.{Member}
use Rattle.px_pyxil.specs.declared.names.Element.{Element}
use Rattle.px_pyxil.specs.declared.names.Element.TheVariants as element
use Rattle.px_pyxil.specs.declared.word.Word.{Word}
use Rattle.px_pyxil.specs.declared.word.Word.TheVariants as w

-- ---- operands

-- a line feed, a tab, a quote and a backslash have an escape
abbrev pub escaped : ℕ → List ℕ
escaped byte =
    cond (byte == 10) (codes "\\n")
    (cond (byte == 9) (codes "\\t")
    (cond (byte == 34) (codes "\\\"")
    (cond (byte == 92) (codes "\\\\") (byte ∷ []))))

abbrev pub quoted : List ℕ → List ℕ
quoted bytes = codes "\"" ++ flat_map escaped bytes ++ codes "\""

-- a long has an L
abbrev pub literal_text : Value → List ℕ
literal_text (Int n) = signed_decimal n
literal_text (Long n) = signed_decimal n ++ codes "L"
literal_text (Truth true) = codes "true"
literal_text (Truth false) = codes "false"
literal_text (Text bytes) = quoted bytes
literal_text Null = codes "null"
literal_text (Ref place) = codes "#" ++ decimal place

abbrev pub slot_text : ℕ → List ℕ
slot_text slot = codes "%" ++ decimal slot

abbrev pub operand_text : Operand → List ℕ
operand_text (Slot slot) = slot_text slot
operand_text (Literal value) = literal_text value

-- ---- names

abbrev pub side_name : Side → List ℕ
side_name App = codes "APP"
side_name Db = codes "DB"

abbrev pub member_text : Member → List ℕ
member_text member = member.class ++ codes "." ++ member.name

abbrev pub element_name : Element → List ℕ
element_name element.Int = codes "int"
element_name element.Long = codes "long"
element_name element.Bool = codes "boolean"
element_name element.Text = codes "String"
element_name (element.Object class) = class

abbrev pub op_name : Op → List ℕ
op_name op.Add = codes "add"
op_name op.Sub = codes "sub"
op_name op.Mul = codes "mul"
op_name op.Div = codes "div"
op_name op.Rem = codes "rem"
op_name op.And = codes "and"
op_name op.Or = codes "or"
op_name op.Xor = codes "xor"
op_name op.Shl = codes "shl"
op_name op.Shr = codes "shr"
op_name op.Ushr = codes "ushr"
op_name op.Lt = codes "lt"
op_name op.Le = codes "le"
op_name op.Gt = codes "gt"
op_name op.Ge = codes "ge"
op_name op.Eq = codes "eq"
op_name op.Ne = codes "ne"
op_name op.Neg = codes "neg"
op_name op.Inv = codes "inv"
op_name op.Not = codes "not"
op_name op.Widen = codes "widen"
op_name op.Narrow = codes "narrow"
op_name op.Concat = codes "concat"
op_name op.Equals = codes "equals"
op_name op.Length = codes "length"

-- ---- statements

abbrev pub operands : List Operand → List (List ℕ)
operands xs = map operand_text xs

abbrev pub operand_if : Option Operand → List (List ℕ)
operand_if None = []
operand_if (Some a) = operand_text a ∷ []

-- a void call has no slot for its value
abbrev pub slot_or_none : Option ℕ → List ℕ
slot_or_none None = codes "-"
slot_or_none (Some slot) = slot_text slot

-- the words of a statement
abbrev pub words_of : Word → List (List ℕ)
words_of (w.Set to a) = codes "set" ∷ slot_text to ∷ operand_text a ∷ []
words_of (w.Op op to a b) = codes "op" ∷ op_name op ∷ slot_text to ∷ operand_text a ∷ operand_if b
words_of (w.Get to of field) = codes "get" ∷ slot_text to ∷ operand_text of ∷ member_text field ∷ []
words_of (w.Put of field a) = codes "put" ∷ operand_text of ∷ member_text field ∷ operand_text a ∷ []
words_of (w.Load to of index) = codes "load" ∷ slot_text to ∷ operand_text of ∷ operand_text index ∷ []
words_of (w.Store of index a) = codes "store" ∷ operand_text of ∷ operand_text index ∷ operand_text a ∷ []
words_of (w.Len to of) = codes "len" ∷ slot_text to ∷ operand_text of ∷ []
words_of (w.New to class site) = codes "new" ∷ slot_text to ∷ class ∷ decimal site ∷ []
words_of (w.Array to element length site) = codes "array" ∷ slot_text to ∷ element_name element ∷ operand_text length ∷ decimal site ∷ []
words_of (w.Call to of method args) = codes "call" ∷ slot_or_none to ∷ operand_text of ∷ member_text method ∷ operands args
words_of (w.Query to statement site params) = codes "query" ∷ slot_text to ∷ decimal statement ∷ decimal site ∷ operands params
words_of (w.Update to statement params) = codes "update" ∷ slot_text to ∷ decimal statement ∷ operands params
words_of (w.Next to of) = codes "next" ∷ slot_text to ∷ operand_text of ∷ []
words_of (w.Long to of column) = codes "long" ∷ slot_text to ∷ operand_text of ∷ operand_text column ∷ []
words_of (w.Text to of column) = codes "text" ∷ slot_text to ∷ operand_text of ∷ operand_text column ∷ []
words_of (w.Print a) = codes "print" ∷ operand_text a ∷ []
words_of (w.Return a) = codes "return" ∷ operand_if a

abbrev pub send_name : SendKind → List ℕ
send_name kind.App = codes "sendAPP"
send_name kind.Db = codes "sendDB"
send_name kind.Native = codes "sendNative"
