-- What the meaning reads of a checked program. Statements and expressions go by their numbers.
use Rattle.std.specs.Prelude.{ℕ, zero, suc, ◌+◌, pos, false, List, [], Option, Some, None, slice_get}
use Rattle.px_value.specs.declared.value.Value.{Value}
use Rattle.px_value.specs.declared.value.Value.TheVariants.{Int, Long, Bool as Truth, Null}
use Rattle.px_value.specs.declared.op.Op.{Op}
use Rattle.px_value.specs.declared.op.Op.TheVariants as op
use Rattle.px_tree.specs.declared.Sign.{Sign}
use Rattle.px_tree.specs.declared.Sign.TheVariants as sign
use Rattle.px_facts.specs.declared.types.Ty.{Ty}
use Rattle.px_facts.specs.declared.types.Ty.TheVariants as ty
use Rattle.px_facts.specs.declared.types.Element.{Element}
use Rattle.px_facts.specs.declared.types.Element.TheVariants as element
use Rattle.px_facts.specs.declared.checked.Named.{Named}
use Rattle.px_facts.specs.declared.checked.Named.TheVariants as named
use Rattle.px_facts.specs.declared.checked.Fact.{Fact}
use Rattle.px_facts.specs.declared.checked.ClassFact.{ClassFact}
use Rattle.px_facts.specs.declared.checked.MethodFact.{MethodFact}
use Rattle.px_facts.specs.declared.checked.Facts.{Facts}
use Rattle.px_facts.specs.declared.operation.Operation.{Operation}

-- ---- statements and expressions

abbrev pub type_in : Option Fact → Ty
type_in None = ty.Unknown
type_in (Some fact) = fact.ty

-- the static type of an expression, or of the local that a statement writes
abbrev pub type_at : Facts → ℕ → Ty
type_at F id = type_in (slice_get F.nodes id)

abbrev pub named_in : Option Fact → Named
named_in None = named.Nothing
named_in (Some fact) = fact.named

-- what an expression names or makes, or the local that a statement writes
abbrev pub named_at : Facts → ℕ → Named
named_at F id = named_in (slice_get F.nodes id)

-- ---- classes and methods

abbrev pub fields_in : Option ClassFact → List Ty
fields_in None = []
fields_in (Some class) = class.fields

-- the types of the fields of a class
abbrev pub fields_of : Facts → ℕ → List Ty
fields_of F class = fields_in (slice_get F.classes class)

-- methods are numbered from 1
abbrev pub by_number : {A : Type 0} → List A → ℕ → Option A
by_number xs zero = None
by_number xs (suc place) = slice_get xs place

abbrev pub params_in : Option MethodFact → List Ty
params_in None = []
params_in (Some method) = method.params

-- calls of `Db` are numbered from 1
abbrev pub operands_in : Option Operation → List Ty
operands_in None = []
operands_in (Some operation) = operation.params

-- the types that arguments are wanted to have
abbrev pub params_of : Facts → Named → List Ty
params_of F (named.Method m) = params_in (by_number F.methods m)
params_of F (named.Query number site) = operands_in (by_number F.operations number)
params_of F (named.Update number) = operands_in (by_number F.operations number)
params_of F _ = []

-- ---- types

-- what a field or a local holds before it is written (JLS 4.12.5)
abbrev pub default_of : Ty → Value
default_of ty.Int = Int (pos 0)
default_of ty.Long = Long (pos 0)
default_of ty.Boolean = Truth false
default_of _ = Null

abbrev pub element_default : Element → Value
element_default element.Int = Int (pos 0)
element_default element.Long = Long (pos 0)
element_default element.Boolean = Truth false
element_default _ = Null

-- the number of a type of elements, as headers have it
abbrev pub element_number : Element → ℕ
element_number element.Int = 0
element_number element.Long = 1
element_number element.Boolean = 2
element_number element.Text = 3
element_number (element.Object class) = 4 + class

-- ---- operators

-- `+` joins texts where an operand is a String (JLS 15.18)
abbrev pub plus_of : Ty → Ty → Op
plus_of ty.Text right = op.Concat
plus_of left ty.Text = op.Concat
plus_of left right = op.Add

-- the operator of a sign between two operands of these types
abbrev pub op_of : Sign → Ty → Ty → Op
op_of sign.Plus left right = plus_of left right
op_of sign.Minus left right = op.Sub
op_of sign.Times left right = op.Mul
op_of sign.Over left right = op.Div
op_of sign.Rest left right = op.Rem
op_of sign.And left right = op.And
op_of sign.Or left right = op.Or
op_of sign.Xor left right = op.Xor
op_of sign.Shl left right = op.Shl
op_of sign.Shr left right = op.Shr
op_of sign.Ushr left right = op.Ushr
op_of sign.Less left right = op.Lt
op_of sign.AtMost left right = op.Le
op_of sign.More left right = op.Gt
op_of sign.AtLeast left right = op.Ge
op_of sign.Equal left right = op.Eq
op_of sign.Unequal left right = op.Ne
op_of sign.Both left right = op.And
op_of sign.Either left right = op.Or
op_of sign.Not left right = op.Not
op_of sign.Inv left right = op.Inv
op_of sign.ToInt left right = op.Narrow
op_of sign.ToLong left right = op.Widen

-- the operator of a prefix on a type, or none where the value stays as it is
abbrev pub prefix_of : Sign → Ty → Option Op
prefix_of sign.Minus of = Some op.Neg
prefix_of sign.Not of = Some op.Not
prefix_of sign.Inv of = Some op.Inv
prefix_of sign.ToInt ty.Long = Some op.Narrow
prefix_of sign.ToLong ty.Int = Some op.Widen
prefix_of _ of = None
