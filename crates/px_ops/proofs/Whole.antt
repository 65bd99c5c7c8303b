-- The table against the rules of types.
use Rattle.std.proofs.Common.{◌≡◌, refl, ap, Bool, true, false, ◌&&◌, Option, Some, None}
use Rattle.px_value.specs.declared.op.Op.{Op}
use Rattle.px_value.specs.declared.op.Op.TheVariants as op
use Rattle.px_value.specs.declared.ty.Ty.{Ty}
use Rattle.px_value.specs.declared.ty.Ty.TheVariants as ty
use Rattle.px_ops.specs.declared.table.TheConstants.{OPS}
use Rattle.px_ops.specs.Table.{is_type, fit_in}
use Rattle.px_ops.specs.Rules.{gives, TableIsWhole}

pub same_type : (t u : Ty) → is_type t u ≡ true → t ≡ u
same_type ty.Int ty.Int h = refl
same_type ty.Int ty.Long h = cc
same_type ty.Int ty.Bool h = cc
same_type ty.Int ty.Text h = cc
same_type ty.Int ty.Ref h = cc
same_type ty.Long ty.Int h = cc
same_type ty.Long ty.Long h = refl
same_type ty.Long ty.Bool h = cc
same_type ty.Long ty.Text h = cc
same_type ty.Long ty.Ref h = cc
same_type ty.Bool ty.Int h = cc
same_type ty.Bool ty.Long h = cc
same_type ty.Bool ty.Bool h = refl
same_type ty.Bool ty.Text h = cc
same_type ty.Bool ty.Ref h = cc
same_type ty.Text ty.Int h = cc
same_type ty.Text ty.Long h = cc
same_type ty.Text ty.Bool h = cc
same_type ty.Text ty.Text h = refl
same_type ty.Text ty.Ref h = cc
same_type ty.Ref ty.Int h = cc
same_type ty.Ref ty.Long h = cc
same_type ty.Ref ty.Bool h = cc
same_type ty.Ref ty.Text h = cc
same_type ty.Ref ty.Ref h = refl

abbrev is_same : Option Ty → Option Ty → Bool
is_same None None = true
is_same (Some t) (Some u) = is_type t u
is_same x y = false

same_options : (x y : Option Ty) → is_same x y ≡ true → x ≡ y
same_options None None h = refl
same_options None (Some u) h = cc
same_options (Some t) None h = cc
same_options (Some t) (Some u) h = ap (λ z. Some z) (same_type t u h)

abbrev all_types : (Ty → Bool) → Bool
all_types p = p ty.Int && (p ty.Long && (p ty.Bool && (p ty.Text && p ty.Ref)))

first : (a b : Bool) → (a && b) ≡ true → a ≡ true
first true b h = refl
first false b h = h

rest : (a b : Bool) → (a && b) ≡ true → b ≡ true
rest true b h = h
rest false b h = cc

at_type : (p : Ty → Bool) → all_types p ≡ true → (t : Ty) → p t ≡ true
at_type p h ty.Int = first _ _ h
at_type p h ty.Long = first _ _ (rest (p ty.Int) _ h)
at_type p h ty.Bool = first _ _ (rest (p ty.Long) _ (rest (p ty.Int) _ h))
at_type p h ty.Text = first _ _ (rest (p ty.Bool) _ (rest (p ty.Long) _ (rest (p ty.Int) _ h)))
at_type p h ty.Ref = rest (p ty.Text) _ (rest (p ty.Bool) _ (rest (p ty.Long) _ (rest (p ty.Int) _ h)))

abbrev is_right : Op → Ty → Ty → Bool
is_right o l r = is_same (fit_in o l r OPS) (gives o l r)

is_whole : (o : Op) → all_types (λ l. all_types (λ r. is_right o l r)) ≡ true
is_whole op.Add = refl
is_whole op.Sub = refl
is_whole op.Mul = refl
is_whole op.Div = refl
is_whole op.Rem = refl
is_whole op.And = refl
is_whole op.Or = refl
is_whole op.Xor = refl
is_whole op.Shl = refl
is_whole op.Shr = refl
is_whole op.Ushr = refl
is_whole op.Lt = refl
is_whole op.Le = refl
is_whole op.Gt = refl
is_whole op.Ge = refl
is_whole op.Eq = refl
is_whole op.Ne = refl
is_whole op.Neg = refl
is_whole op.Inv = refl
is_whole op.Not = refl
is_whole op.Widen = refl
is_whole op.Narrow = refl
is_whole op.Concat = refl
is_whole op.Equals = refl
is_whole op.Length = refl

pub table_is_whole : TableIsWhole
table_is_whole o l r = same_options (fit_in o l r OPS) (gives o l r) (at_type (λ r. is_right o l r) (at_type (λ l. all_types (λ r. is_right o l r)) (is_whole o) l) r)
