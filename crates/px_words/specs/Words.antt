-- Words of the grammar by what they are for: operators, prefixes, casts, types.
use Rattle.std.specs.Prelude.{ℕ, Bool, true, false, Option, Some, None}
use Rattle.px_words.specs.declared.lexeme.Word.{Word}
use Rattle.px_words.specs.declared.lexeme.Word.TheVariants as w
use Rattle.px_tree.specs.declared.Sign.{Sign}
use Rattle.px_tree.specs.declared.Sign.TheVariants as sign
use Rattle.px_words.specs.Lexemes.{is_name}

-- between two operands
abbrev pub binary_sign : Word → Option Sign
binary_sign w.Plus = Some sign.Plus
binary_sign w.Minus = Some sign.Minus
binary_sign w.Times = Some sign.Times
binary_sign w.Over = Some sign.Over
binary_sign w.Rest = Some sign.Rest
binary_sign w.And = Some sign.And
binary_sign w.Or = Some sign.Or
binary_sign w.Xor = Some sign.Xor
binary_sign w.Shl = Some sign.Shl
binary_sign w.Shr = Some sign.Shr
binary_sign w.Ushr = Some sign.Ushr
binary_sign w.Less = Some sign.Less
binary_sign w.AtMost = Some sign.AtMost
binary_sign w.More = Some sign.More
binary_sign w.AtLeast = Some sign.AtLeast
binary_sign w.Equal = Some sign.Equal
binary_sign w.Unequal = Some sign.Unequal
binary_sign w.Both = Some sign.Both
binary_sign w.Either = Some sign.Either
binary_sign _ = None

-- How tightly an operator binds, the loosest first (JLS SE 8, 15.17 to 15.24).
abbrev pub level : Sign → ℕ
level sign.Either = 1
level sign.Both = 2
level sign.Or = 3
level sign.Xor = 4
level sign.And = 5
level sign.Equal = 6
level sign.Unequal = 6
level sign.Less = 7
level sign.AtMost = 7
level sign.More = 7
level sign.AtLeast = 7
level sign.Shl = 8
level sign.Shr = 8
level sign.Ushr = 8
level sign.Plus = 9
level sign.Minus = 9
level _ = 10

-- what has no operator outside its parentheses binds tightest
abbrev pub tightest : ℕ
tightest = 11

-- before an operand
abbrev pub prefix_sign : Word → Option Sign
prefix_sign w.Minus = Some sign.Minus
prefix_sign w.Not = Some sign.Not
prefix_sign w.Inv = Some sign.Inv
prefix_sign _ = None

-- in parentheses before an operand
abbrev pub cast_sign : Word → Option Sign
cast_sign w.Int = Some sign.ToInt
cast_sign w.Long = Some sign.ToLong
cast_sign _ = None

-- the cast to a type of numbers
abbrev pub cast_to : Word → Sign
cast_to w.Int = sign.ToInt
cast_to _ = sign.ToLong

-- between a variable and a value
abbrev pub compound_sign : Word → Option Sign
compound_sign w.PlusAssign = Some sign.Plus
compound_sign w.MinusAssign = Some sign.Minus
compound_sign w.TimesAssign = Some sign.Times
compound_sign w.OverAssign = Some sign.Over
compound_sign w.RestAssign = Some sign.Rest
compound_sign w.AndAssign = Some sign.And
compound_sign w.OrAssign = Some sign.Or
compound_sign w.XorAssign = Some sign.Xor
compound_sign w.ShlAssign = Some sign.Shl
compound_sign w.ShrAssign = Some sign.Shr
compound_sign w.UshrAssign = Some sign.Ushr
compound_sign _ = None

-- `int`, `long` and `boolean`
abbrev pub is_primitive : Word → Bool
is_primitive w.Int = true
is_primitive w.Long = true
is_primitive w.Boolean = true
is_primitive _ = false

-- what may be the type of an array's elements
abbrev pub is_base : Word → Bool
is_base w.Int = true
is_base w.Long = true
is_base w.Boolean = true
is_base word = is_name word

-- the type of a column
abbrev pub is_column_type : Word → Bool
is_column_type w.ColumnLong = true
is_column_type w.ColumnText = true
is_column_type _ = false
