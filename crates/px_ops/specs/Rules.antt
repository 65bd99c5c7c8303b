-- The types that an operator takes, and the type that it gives, by the rules of the language (JLS SE 8).
use Rattle.std.specs.Prelude.{◌≡◌, ⊤, ◌&&◌, ◌||◌, Option, Some, None, if◌then◌else◌, IfOk}
use Rattle.px_value.specs.declared.value.Value.{Value}
use Rattle.px_value.specs.declared.value.Value.TheVariants.{Text, Null}
use Rattle.px_value.specs.declared.op.Op.{Op}
use Rattle.px_value.specs.declared.op.Op.TheVariants as op
use Rattle.px_value.specs.declared.ty.Ty.{Ty}
use Rattle.px_value.specs.declared.ty.Ty.TheVariants as ty
use Rattle.px_value.specs.Operators.{apply}
use Rattle.px_value.specs.Types.{HasType}
use Rattle.px_ops.specs.declared.table.TheConstants.{OPS}
use Rattle.px_ops.specs.Table.{is_type, is_joined, fit_in}

-- two numbers are of one type after promotion (5.6.2)
abbrev pub promoted : Ty → Ty → Option Ty
promoted ty.Int ty.Int = Some ty.Int
promoted ty.Int ty.Long = Some ty.Long
promoted ty.Long ty.Int = Some ty.Long
promoted ty.Long ty.Long = Some ty.Long
promoted l r = None

abbrev pub if_some : Option Ty → Ty → Option Ty
if_some None g = None
if_some (Some t) g = Some g

abbrev pub of_bits : Ty → Ty → Option Ty
of_bits ty.Bool ty.Bool = Some ty.Bool
of_bits l r = promoted l r

abbrev pub of_equality : Ty → Ty → Option Ty
of_equality ty.Bool ty.Bool = Some ty.Bool
of_equality ty.Ref ty.Ref = Some ty.Bool
of_equality l r = if_some (promoted l r) ty.Bool

abbrev pub of_sign : Ty → Ty → Option Ty
of_sign ty.Int ty.Int = Some ty.Int
of_sign ty.Long ty.Long = Some ty.Long
of_sign l r = None

abbrev pub both : (t g l r : Ty) → Option Ty
both t g l r = if is_type t l && is_type t r then Some g else None

-- one is a text, and the other has a text
abbrev pub of_join : Ty → Ty → Option Ty
of_join l r = if (is_type l ty.Text && is_joined r) || (is_type r ty.Text && is_joined l) then Some ty.Text else None

abbrev pub gives : Op → (l r : Ty) → Option Ty
-- 15.17, 15.18
gives op.Add l r = promoted l r
gives op.Sub l r = promoted l r
gives op.Mul l r = promoted l r
gives op.Div l r = promoted l r
gives op.Rem l r = promoted l r
-- 15.22
gives op.And l r = of_bits l r
gives op.Or l r = of_bits l r
gives op.Xor l r = of_bits l r
-- 15.19
gives op.Shl l r = if_some (promoted l r) l
gives op.Shr l r = if_some (promoted l r) l
gives op.Ushr l r = if_some (promoted l r) l
-- 15.20
gives op.Lt l r = if_some (promoted l r) ty.Bool
gives op.Le l r = if_some (promoted l r) ty.Bool
gives op.Gt l r = if_some (promoted l r) ty.Bool
gives op.Ge l r = if_some (promoted l r) ty.Bool
-- 15.21
gives op.Eq l r = of_equality l r
gives op.Ne l r = of_equality l r
-- 15.15
gives op.Neg l r = of_sign l r
gives op.Inv l r = of_sign l r
gives op.Not l r = both ty.Bool ty.Bool l r
-- 5.1.2, 5.1.3
gives op.Widen l r = both ty.Int ty.Long l r
gives op.Narrow l r = both ty.Long ty.Int l r
-- 15.18.1
gives op.Concat l r = of_join l r
gives op.Equals l r = both ty.Text ty.Bool l r
gives op.Length l r = both ty.Text ty.Int l r

-- The table has exactly the rows that the rules ask for.
abbrev pub TableIsWhole : Type 0
TableIsWhole = (o : Op) (l r : Ty) → fit_in o l r OPS ≡ gives o l r

-- a text beside null is compared as a reference
abbrev pub IsCompared : Ty → (v beside : Value) → Type 0
IsCompared ty.Ref (Text t) Null = ⊤
IsCompared t v beside = HasType t v

-- a value beside another, as an operand of a type
abbrev pub IsOperand : Op → Ty → (v beside : Value) → Type 0
IsOperand op.Eq t v beside = IsCompared t v beside
IsOperand op.Ne t v beside = IsCompared t v beside
IsOperand o t v beside = HasType t v

-- Values of the types of a row give a value of the type that it gives, or throw. A unary operator has its operand twice.
abbrev pub RowsKeepTypes : Type 0
RowsKeepTypes = (o : Op) (l r g : Ty) (a b : Value) → fit_in o l r OPS ≡ Some g → IsOperand o l a b → IsOperand o r b a → IfOk (apply o a b) (HasType g)
