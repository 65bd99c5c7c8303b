-- How an expression with its numbers is written.
use Rattle.std.proofs.Common.{◌≡◌, ℕ, ◌+◌, List, Some, None, refl, sym, ap, ◌∙◌}
use Rattle.px_tree.specs.declared.Expr.{Expr}
use Rattle.px_tree.specs.declared.ExprForm.{ExprForm, ExprForm-F, out-ExprForm, out-roll-ExprForm, roll-ExprForm}
use Rattle.px_tree.specs.declared.ExprForm.TheVariants.{Str, rolls-Number, rolls-Str, rolls-True, rolls-False, rolls-Null, rolls-This, rolls-Name, rolls-Group, rolls-Field, rolls-Index, rolls-Call, rolls-NewObject, rolls-NewArray, rolls-Prefix, rolls-Binary}
use Rattle.px_tree.specs.declared.ExprForm.TheOpen.{ExprForm-F as f}
use Rattle.px_types.specs.declared.database.Verb.{Verb}
use Rattle.px_types.specs.Database.{Written, Bare, Literal, Other, written_form, written, asked}
use Rattle.px_soundness.specs.Numbered.{IsExpr}

-- a name and a literal have one number
pub data IsWritten (n m : ℕ) (x : Expr) : Type 0 where
  bare : (name : List ℕ) → m ≡ n + 1 → written x ≡ Bare name → IsWritten n m x
  literal : (bytes : List ℕ) (token : ℕ) → m ≡ n + 1 → written x ≡ Literal bytes token → x.form ≡ Str bytes → IsWritten n m x
  other : written x ≡ Other → IsWritten n m x

pub unrolled : (x : Expr) (form : ExprForm) (y : ExprForm-F ExprForm Expr) → x.form ≡ form → roll-ExprForm y ≡ form → out-ExprForm x.form ≡ y
unrolled x form y h k = ap out-ExprForm (h ∙ sym k) ∙ out-roll-ExprForm y

as_form : (x : Expr) (y : ExprForm-F ExprForm Expr) (w : Written) → out-ExprForm x.form ≡ y → written_form x.token y ≡ w → written x ≡ w
as_form x y w h k = ap (λ (z : ExprForm-F ExprForm Expr). written_form x.token z) h ∙ k

as_other : (n m : ℕ) (x : Expr) (form : ExprForm) (y : ExprForm-F ExprForm Expr) → x.form ≡ form → roll-ExprForm y ≡ form → written_form x.token y ≡ Other → IsWritten n m x
as_other n m x form y h k e = IsWritten.other (as_form x y Other (unrolled x form y h k) e)

pub how_written : (n m : ℕ) (x : Expr) → IsExpr n x m → IsWritten n m x
how_written _ _ _ (IsExpr.number x digits long h) = as_other _ _ x _ (f.Number digits long) h (rolls-Number digits long) refl
how_written _ _ _ (IsExpr.text x bytes h) = IsWritten.literal bytes x.token refl (as_form x (f.Str bytes) (Literal bytes x.token) (unrolled x _ (f.Str bytes) h (rolls-Str bytes)) refl) h
how_written _ _ _ (IsExpr.truth x h) = as_other _ _ x _ f.True h rolls-True refl
how_written _ _ _ (IsExpr.falsehood x h) = as_other _ _ x _ f.False h rolls-False refl
how_written _ _ _ (IsExpr.null x h) = as_other _ _ x _ f.Null h rolls-Null refl
how_written _ _ _ (IsExpr.this x h) = as_other _ _ x _ f.This h rolls-This refl
how_written _ _ _ (IsExpr.variable x name h) = IsWritten.bare name.bytes refl (as_form x (f.Name name) (Bare name.bytes) (unrolled x _ (f.Name name) h (rolls-Name name)) refl)
how_written _ _ _ (IsExpr.group m x inner h d) = as_other _ _ x _ (f.Group inner) h (rolls-Group inner) refl
how_written _ _ _ (IsExpr.field m x of name h d) = as_other _ _ x _ (f.Field of name) h (rolls-Field of name) refl
how_written _ _ _ (IsExpr.indexed k m x of at h d g) = as_other _ _ x _ (f.Index of at) h (rolls-Index of at) refl
how_written _ _ _ (IsExpr.own_call m x name args h d) = as_other _ _ x _ (f.Call None name args) h (rolls-Call None name args) refl
how_written _ _ _ (IsExpr.call k m x of name args h d g) = as_other _ _ x _ (f.Call (Some of) name args) h (rolls-Call (Some of) name args) refl
how_written _ _ _ (IsExpr.new_object x name h) = as_other _ _ x _ (f.NewObject name) h (rolls-NewObject name) refl
how_written _ _ _ (IsExpr.new_array m x b size h i d) = as_other _ _ x _ (f.NewArray b size) h (rolls-NewArray b size) refl
how_written _ _ _ (IsExpr.prefix m x s y h i d) = as_other _ _ x _ (f.Prefix s y) h (rolls-Prefix s y) refl
how_written _ _ _ (IsExpr.binary k m x s at l r h i d g) = as_other _ _ x _ (f.Binary s at l r) h (rolls-Binary s at l r) refl

-- `Db` has one number
pub receiver_end : (n m : ℕ) (x : Expr) (name : List ℕ) (v : Verb) → IsWritten n m x → asked (written x) name ≡ Some v → m ≡ n + 1
receiver_end n m x name v (IsWritten.bare of e w) q = e
receiver_end n m x name v (IsWritten.literal bytes token e w h) q = e
receiver_end n m x name v (IsWritten.other w) q = absurd (cc (sym (ap (λ (z : Written). asked z name) w) ∙ q))
