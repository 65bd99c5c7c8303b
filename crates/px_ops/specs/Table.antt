-- Which row of a table fits an operator and two types.
use Rattle.std.specs.Prelude.{ℕ, Bool, true, false, ◌==◌, ◌&&◌, ◌||◌, List, [], ◌∷◌, Option, Some, None, if◌then◌else◌}
use Rattle.px_value.specs.declared.op.Op.{Op}
use Rattle.px_value.specs.declared.op.Op.TheVariants as op
use Rattle.px_value.specs.declared.ty.Ty.{Ty}
use Rattle.px_value.specs.declared.ty.Ty.TheVariants as ty
use Rattle.px_ops.specs.declared.table.OpRow.{OpRow}

-- the numbers of operators and types, by which they are told apart
abbrev pub op_number : Op → ℕ
op_number op.Add = 0
op_number op.Sub = 1
op_number op.Mul = 2
op_number op.Div = 3
op_number op.Rem = 4
op_number op.And = 5
op_number op.Or = 6
op_number op.Xor = 7
op_number op.Shl = 8
op_number op.Shr = 9
op_number op.Ushr = 10
op_number op.Lt = 11
op_number op.Le = 12
op_number op.Gt = 13
op_number op.Ge = 14
op_number op.Eq = 15
op_number op.Ne = 16
op_number op.Neg = 17
op_number op.Inv = 18
op_number op.Not = 19
op_number op.Widen = 20
op_number op.Narrow = 21
op_number op.Concat = 22
op_number op.Equals = 23
op_number op.Length = 24

abbrev pub ty_number : Ty → ℕ
ty_number ty.Int = 0
ty_number ty.Long = 1
ty_number ty.Bool = 2
ty_number ty.Text = 3
ty_number ty.Ref = 4

abbrev pub is_type : Ty → Ty → Bool
is_type t u = ty_number t == ty_number u

-- whether a value of the type can be joined to a text
abbrev pub is_joined : Ty → Bool
is_joined ty.Ref = false
is_joined _ = true

abbrev pub takes : Op → (left right l r : Ty) → Bool
takes op.Concat left right l r = (is_type l ty.Text && is_joined r) || (is_type r ty.Text && is_joined l)
takes o left right l r = is_type left l && is_type right r

abbrev pub takes_types : OpRow → (l r : Ty) → Bool
takes_types row l r = takes row.op row.left row.right l r

abbrev pub is_fitting : Op → (l r : Ty) → OpRow → Bool
is_fitting o l r row = (op_number row.op == op_number o) && takes_types row l r

-- what the first row gives that fits
abbrev pub fit_in : Op → (l r : Ty) → List OpRow → Option Ty
fit_in o l r [] = None
fit_in o l r (row ∷ rows) = if is_fitting o l r row then Some row.gives else fit_in o l r rows
