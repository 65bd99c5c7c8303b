-- How values, replies, parts and kinds are printed.
use Rattle.std.specs.Prelude.{ℕ, ◌==◌, cond, true, false, List, [], ◌∷◌, ◌++◌, codes, decimal, get_or}
use Rattle.std.specs.List.{flat_map}
use Rattle.std.specs.Fmt.{signed_decimal}
use Rattle.px_value.specs.declared.value.Value.{Value}
use Rattle.px_value.specs.declared.value.Value.TheVariants.{Int, Long, Bool as Truth, Text, Null, Ref}
use Rattle.px_value.specs.declared.thrown.Thrown.{Thrown}
use Rattle.px_value.specs.declared.thrown.Thrown.TheVariants as thrown
use Rattle.px_value.specs.declared.header.Kind.{Kind}
use Rattle.px_value.specs.declared.header.Kind.TheVariants.{Object, Array, Rows}
use Rattle.px_code.specs.declared.reply.Reply.{Reply}
use Rattle.px_code.specs.declared.reply.Reply.TheVariants as reply

-- ---- values

-- a line feed, a tab, a quote and a backslash have an escape
abbrev pub escaped : ℕ → List ℕ
escaped byte =
    cond (byte == 10) (codes "\\n")
    (cond (byte == 9) (codes "\\t")
    (cond (byte == 34) (codes "\\\"")
    (cond (byte == 92) (codes "\\\\") (byte ∷ []))))

abbrev pub quoted : List ℕ → List ℕ
quoted bytes = codes "\"" ++ flat_map escaped bytes ++ codes "\""

-- a reference is printed as the place of its object
abbrev pub value_text : Value → List ℕ
value_text (Int n) = signed_decimal n
value_text (Long n) = signed_decimal n
value_text (Truth true) = codes "true"
value_text (Truth false) = codes "false"
value_text (Text bytes) = quoted bytes
value_text Null = codes "null"
value_text (Ref place) = codes "#" ++ decimal place

-- ---- replies

abbrev pub thrown_name : Thrown → List ℕ
thrown_name thrown.ArithmeticException = codes "ArithmeticException"
thrown_name thrown.NullPointerException = codes "NullPointerException"
thrown_name thrown.ArrayIndexOutOfBoundsException = codes "ArrayIndexOutOfBoundsException"
thrown_name thrown.NegativeArraySizeException = codes "NegativeArraySizeException"
thrown_name thrown.SQLException = codes "SQLException"
thrown_name thrown.TurnsOut = codes "TurnsOut"
thrown_name thrown.StackOverflowError = codes "StackOverflowError"
thrown_name thrown.OpsOut = codes "OpsOut"
thrown_name thrown.PrintsOut = codes "PrintsOut"
thrown_name thrown.HeapFull = codes "HeapFull"
thrown_name thrown.TextTooLong = codes "TextTooLong"

abbrev pub reply_text : Reply → List ℕ
reply_text reply.Void = codes "void"
reply_text (reply.Value v) = value_text v
reply_text (reply.Threw t) = codes "threw " ++ thrown_name t

-- ---- names by number

-- the name at this place; a thing that isn't there has none
abbrev pub name_at : List (List ℕ) → ℕ → List ℕ
name_at names place = get_or names place []

abbrev pub part_name : List (List ℕ) → ℕ → List ℕ
part_name parts part = name_at parts part

-- ---- kinds

abbrev pub class_name : List (List ℕ) → ℕ → List ℕ
class_name classes class = name_at classes class

-- the types of the elements of arrays: the four that are built in, then the classes
abbrev pub element_name : List (List ℕ) → ℕ → List ℕ
element_name classes element = class_name (codes "int" ∷ codes "long" ∷ codes "boolean" ∷ codes "String" ∷ classes) element

abbrev pub kind_name : List (List ℕ) → Kind → List ℕ
kind_name classes (Object class) = class_name classes class
kind_name classes (Array element) = element_name classes element ++ codes "[]"
kind_name classes (Rows statement) = codes "Rows"
