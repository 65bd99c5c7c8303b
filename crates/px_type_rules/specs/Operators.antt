-- The operands and the types of operators (JLS 15.14 to 15.26).
use Rattle.std.specs.Prelude.{Bool, true, false, not, ◌&&◌, ◌||◌, if◌then◌else◌}
use Rattle.px_tree.specs.declared.Sign.{Sign}
use Rattle.px_tree.specs.declared.Sign.TheVariants.{Plus, Minus, Times, Over, Rest, And, Or, Xor, Shl, Shr, Ushr, Less, AtMost, More, AtLeast, Equal, Unequal, Both, Either, Not, Inv, ToInt, ToLong}
use Rattle.px_facts.specs.declared.types.Ty.{Ty}
use Rattle.px_facts.specs.declared.types.Ty.TheVariants.{Unknown, Int, Long, Boolean, Text}
use Rattle.px_type_rules.specs.declared.operators.Group.{Group}
use Rattle.px_type_rules.specs.declared.operators.Group.TheVariants as group
use Rattle.px_facts.specs.Types.{is_unknown, is_void, is_null, is_number, is_boolean, is_text, is_reference, same}

-- unary numeric promotion (JLS 5.6.1)
abbrev pub promoted : Ty → Ty
promoted Int = Int
promoted Long = Long
promoted _ = Unknown

-- binary numeric promotion (JLS 5.6.2)
abbrev pub both_promoted : Ty → Ty → Ty
both_promoted Int Int = Int
both_promoted Int Long = Long
both_promoted Long Int = Long
both_promoted Long Long = Long
both_promoted _ _ = Unknown

-- ---- prefixes

abbrev pub is_minus : Sign → Bool
is_minus Minus = true
is_minus _ = false

-- `-`, `~` and casts have a number behind them, `!` a boolean (JLS 15.15, 15.16)
abbrev pub prefix_takes : Sign → Ty → Bool
prefix_takes Minus t = is_number t
prefix_takes Inv t = is_number t
prefix_takes ToInt t = is_number t
prefix_takes ToLong t = is_number t
prefix_takes Not t = is_boolean t
prefix_takes _ t = true

abbrev pub prefix_fits : Sign → Ty → Bool
prefix_fits sign t = is_unknown t || prefix_takes sign t

abbrev pub prefix_type : Sign → Ty → Ty
prefix_type Minus t = promoted t
prefix_type Inv t = promoted t
prefix_type ToInt t = Int
prefix_type ToLong t = Long
prefix_type Not t = Boolean
prefix_type _ t = Unknown

-- ---- binary operators

abbrev pub group_of : Sign → Group
group_of Plus = group.Add
group_of Minus = group.Arithmetic
group_of Times = group.Arithmetic
group_of Over = group.Arithmetic
group_of Rest = group.Arithmetic
group_of And = group.Bits
group_of Or = group.Bits
group_of Xor = group.Bits
group_of Shl = group.Shift
group_of Shr = group.Shift
group_of Ushr = group.Shift
group_of Less = group.Order
group_of AtMost = group.Order
group_of More = group.Order
group_of AtLeast = group.Order
group_of Equal = group.Equality
group_of Unequal = group.Equality
group_of Both = group.Logic
group_of Either = group.Logic
group_of _ = group.NotBinary

-- a known type that an operand may have, beside some other operand
abbrev pub group_takes : Group → Ty → Bool
group_takes group.Add t = ((is_number t || is_boolean t) || is_text t) || is_null t
group_takes group.Arithmetic t = is_number t
group_takes group.Bits t = is_number t || is_boolean t
group_takes group.Shift t = is_number t
group_takes group.Order t = is_number t
group_takes group.Equality t = not (is_void t)
group_takes group.Logic t = is_boolean t
group_takes group.NotBinary t = true

abbrev pub are_numbers : Ty → Ty → Bool
are_numbers l r = is_number l && is_number r

abbrev pub are_booleans : Ty → Ty → Bool
are_booleans l r = is_boolean l && is_boolean r

-- two references of one type, or a reference and null, or null twice (JLS 15.21.3)
abbrev pub are_references : Ty → Ty → Bool
are_references l r = ((is_null l || is_reference l) && (is_null r || is_reference r)) && ((is_null l || is_null r) || same l r)

-- the types that operands may have beside each other, where each may be an operand
abbrev pub group_joins : Group → Ty → Ty → Bool
group_joins group.Add l r = (are_numbers l r || is_text l) || is_text r
group_joins group.Bits l r = are_numbers l r || are_booleans l r
group_joins group.Equality l r = (are_numbers l r || are_booleans l r) || are_references l r
group_joins _ l r = true

-- an operand of unknown type fits, and the other one is judged by itself
abbrev pub operand_fits : Group → Ty → Bool
operand_fits g t = is_unknown t || group_takes g t

abbrev pub operands_fit : Group → Ty → Ty → Bool
operands_fit g l r = (operand_fits g l && operand_fits g r) && ((is_unknown l || is_unknown r) || group_joins g l r)

abbrev pub sum_type : Ty → Ty → Ty
sum_type l r = if is_text l || is_text r then Text else both_promoted l r

abbrev pub bits_type : Ty → Ty → Ty
bits_type l r = if are_booleans l r then Boolean else both_promoted l r

-- the type, also where the operands don't fit
abbrev pub group_type : Group → Ty → Ty → Ty
group_type group.Add l r = sum_type l r
group_type group.Arithmetic l r = both_promoted l r
group_type group.Bits l r = bits_type l r
group_type group.Shift l r = promoted l
group_type group.NotBinary l r = Unknown
group_type _ l r = Boolean

-- `==` and `!=` don't stand between two Strings
abbrev pub compares_texts : Group → Ty → Ty → Bool
compares_texts group.Equality l r = is_text l && is_text r
compares_texts _ l r = false

-- ---- compound assignments (JLS 15.26.2, with one type on both sides)

abbrev pub compound_takes : Group → Ty → Bool
compound_takes group.Add t = is_number t || is_text t
compound_takes group.Arithmetic t = is_number t
compound_takes group.Bits t = is_number t || is_boolean t
compound_takes group.Shift t = is_number t
compound_takes _ t = false

abbrev pub assigned_fits : Group → Ty → Bool
assigned_fits g t = is_unknown t || compound_takes g t

abbrev pub compound_fits : Group → Ty → Ty → Bool
compound_fits g to from = (assigned_fits g to && assigned_fits g from) && ((is_unknown to || is_unknown from) || same to from)
