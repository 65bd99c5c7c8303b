-- Which trees have a text that is read.
use Rattle.std.specs.Prelude.{◌≡◌, ℕ, ◌<◌, ◌≤◌, ◌^◌, Bool, true, not, ◌&&◌, ⊤, List, [], ◌∷◌, length, codes, Option, Some, None}
use Rattle.std.specs.List.{AllByRecursion}
use Rattle.std.specs.Str.{bytes_eq}
use Rattle.std.specs.Int.{w32, w64}
use Rattle.std.specs.Int.RustNames.{FitsSigned}
use Rattle.px_value.specs.declared.value.Value.{Value}
use Rattle.px_value.specs.declared.value.Value.TheVariants.{Int, Long, Bool as Truth, Text, Null, Ref}
use Rattle.px_value.specs.Limits.{max_text}
use Rattle.px_normal.specs.declared.word.Operand.{Operand}
use Rattle.px_normal.specs.declared.word.Operand.TheVariants.{Slot, Literal}
use Rattle.px_lex.specs.Names.{is_identifier}
use Rattle.px_pyxil.specs.declared.names.Member.{Member}
use Rattle.px_pyxil.specs.declared.names.Element.{Element}
use Rattle.px_pyxil.specs.declared.names.Element.TheVariants as element
use Rattle.px_pyxil.specs.declared.word.Word.{Word}
use Rattle.px_pyxil.specs.declared.word.Word.TheVariants as w
use Rattle.px_pyxil.specs.declared.tree.At.{At}
use Rattle.px_pyxil.specs.declared.tree.Pyxil.{Pyxil}
use Rattle.px_pyxil.specs.declared.line.Line.{Line}
use Rattle.px_pyxil.specs.declared.line.Line.TheVariants as line
use Rattle.px_pyxil.specs.Lines.{lines_of}

-- ---- names are identifiers, and no class is named as the type of texts is

abbrev pub is_class : List ℕ → Bool
is_class name = is_identifier name && not (bytes_eq name (codes "String"))

abbrev pub IsName : List ℕ → Type 0
IsName name = is_identifier name ≡ true

abbrev pub IsClass : List ℕ → Type 0
IsClass name = is_class name ≡ true

abbrev pub MemberFits : Member → Type 0
MemberFits member = IsClass member.class × IsName member.name

abbrev pub ElementFits : Element → Type 0
ElementFits (element.Object class) = IsClass class
ElementFits _ = ⊤

-- ---- numbers are within the range of their type, and texts are short and of ASCII

abbrev pub IsU16 : ℕ → Type 0
IsU16 n = n < 2 ^ 16

abbrev pub IsU32 : ℕ → Type 0
IsU32 n = n < 2 ^ 32

abbrev pub SlotIfFits : Option ℕ → Type 0
SlotIfFits None = ⊤
SlotIfFits (Some slot) = IsU16 slot

abbrev pub TextFits : List ℕ → Type 0
TextFits text = (length text ≤ max_text) × AllByRecursion (λ byte. byte < 128) text

abbrev pub ValueFits : Value → Type 0
ValueFits (Int n) = FitsSigned w32 n
ValueFits (Long n) = FitsSigned w64 n
ValueFits (Text text) = TextFits text
ValueFits (Ref place) = IsU32 place
ValueFits _ = ⊤

abbrev pub OperandFits : Operand → Type 0
OperandFits (Slot slot) = IsU16 slot
OperandFits (Literal value) = ValueFits value

abbrev pub OperandIfFits : Option Operand → Type 0
OperandIfFits None = ⊤
OperandIfFits (Some operand) = OperandFits operand

abbrev pub OperandsFit : List Operand → Type 0
OperandsFit operands = AllByRecursion OperandFits operands

-- ---- statements, lines, trees

abbrev pub WordFits : Word → Type 0
WordFits (w.Set to a) = IsU16 to × OperandFits a
WordFits (w.Op op to a b) = IsU16 to × OperandFits a × OperandIfFits b
WordFits (w.Get to of field) = IsU16 to × OperandFits of × MemberFits field
WordFits (w.Put of field a) = OperandFits of × MemberFits field × OperandFits a
WordFits (w.Load to of index) = IsU16 to × OperandFits of × OperandFits index
WordFits (w.Store of index a) = OperandFits of × OperandFits index × OperandFits a
WordFits (w.Len to of) = IsU16 to × OperandFits of
WordFits (w.New to class site) = IsU16 to × IsClass class × IsU16 site
WordFits (w.Array to element length site) = IsU16 to × ElementFits element × OperandFits length × IsU16 site
WordFits (w.Call to of method args) = SlotIfFits to × OperandFits of × MemberFits method × OperandsFit args
WordFits (w.Query to statement site params) = IsU16 to × IsU16 statement × IsU16 site × OperandsFit params
WordFits (w.Update to statement params) = IsU16 to × IsU16 statement × OperandsFit params
WordFits (w.Next to of) = IsU16 to × OperandFits of
WordFits (w.Long to of column) = IsU16 to × OperandFits of × OperandFits column
WordFits (w.Text to of column) = IsU16 to × OperandFits of × OperandFits column
WordFits (w.Print a) = OperandFits a
WordFits (w.Return a) = OperandIfFits a

abbrev pub LineFits : Line → Type 0
LineFits (line.Field field) = MemberFits field.field
LineFits (line.Site site) = IsU16 site.number
LineFits (line.Method head) = IsU32 head.at.node × MemberFits head.method × IsU32 head.slots
LineFits (line.Do at word) = IsU32 at.node × WordFits word
LineFits (line.Send send) = OperandFits send.object
LineFits (line.If at test) = IsU32 at.node × OperandFits test
LineFits (line.Test at test) = IsU32 at.node × OperandFits test
LineFits _ = ⊤

-- each line of the tree is one that is read
unfoldable pub Fits : Pyxil → Type 0
Fits pyxil = AllByRecursion LineFits (lines_of pyxil)
