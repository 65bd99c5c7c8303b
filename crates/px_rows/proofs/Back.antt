-- Old rows put back leave the tables as they were.
use Rattle.std.proofs.Common.{◌≡◌, ℕ, zero, suc, ℤ, Bool, true, false, cond, List, [], ◌∷◌, ◌++◌, Option, Some, None, slice_get, slice_set, refl, sym, ap, ◌∙◌}
use Rattle.std.specs.Ordering.{int_cmp, eq_by_cmp}
use Rattle.std.specs.Cmp.{int_cmp_total}
use Rattle.std.specs.FinMap.{get, insert, remove, get-insert, get-remove, same_map, int_cmp-IsAntisymmetric, get_tied}
use Rattle.std.specs.declared.cmp.Ordering.TheVariants.{Equal}
use Rattle.px_value.specs.declared.statement.TableOp.{TableOp}
use Rattle.px_rows.specs.Tables.{Row, Table, Tables, Place, Old, or_empty, row_at, put_row, with_row, undone}
use Rattle.px_rows.specs.Means.{write_of, after_write, old_row, place_of, after, old_of, fed, olds_of}

pub get-put_row : (t : Table) (k q : ℤ) (row : Option Row) → get (put_row k row t) q ≡ cond (eq_by_cmp int_cmp q k) row (get t q)
unfolding put_row
get-put_row t k q None = get-remove int_cmp_total t k q
get-put_row t k q (Some row) = get-insert int_cmp_total t k row q

twice : (b : Bool) (x y z : Option Row) → (b ≡ true → z ≡ x) → cond b x (cond b y z) ≡ z
twice true x y z h = sym (h refl)
twice false x y z h = refl

tied : (t : Table) (k q : ℤ) → eq_by_cmp int_cmp q k ≡ true → get t q ≡ get t k
tied t k q e = sym (get_tied int_cmp_total t q k (equal_of q k e))
  where
    equal_of : (q k : ℤ) → eq_by_cmp int_cmp q k ≡ true → int_cmp q k ≡ Equal
    equal_of q k e = (Rattle.std.specs.Cmp.Equal-is (int_cmp q k)).0 e

pub put_back : (t : Table) (k : ℤ) (row : Option Row) → put_row k (get t k) (put_row k row t) ≡ t
put_back t k row = same_map int_cmp_total int_cmp-IsAntisymmetric _ t (λ q.
    get-put_row (put_row k row t) k q (get t k)
    ∙ ap (λ x. cond (eq_by_cmp int_cmp q k) (get t k) x) (get-put_row t k q row)
    ∙ twice (eq_by_cmp int_cmp q k) (get t k) row (get t q) (tied t k q))

set_set : {A : Type 0} (xs : List A) (i : ℕ) (x y : A) → slice_set (slice_set xs i x) i y ≡ slice_set xs i y
set_set [] i x y = refl
set_set (z ∷ xs) zero x y = refl
set_set (z ∷ xs) (suc i) x y = ap (λ zs. z ∷ zs) (set_set xs i x y)

set_back : (T : Tables) (i : ℕ) (t : Table) → slice_get T i ≡ Some t → slice_set T i t ≡ T
set_back [] i t h = refl
set_back (u ∷ T) zero t h = let e : u ≡ t = cc in ap (λ z. z ∷ T) (sym e)
set_back (u ∷ T) (suc i) t h = ap (λ zs. u ∷ zs) (set_back T i t h)

set_none : {A : Type 0} (xs : List A) (i : ℕ) (x : A) → slice_get xs i ≡ None → slice_set xs i x ≡ xs
set_none [] i x h = refl
set_none (y ∷ xs) zero x h = cc
set_none (y ∷ xs) (suc i) x h = ap (λ zs. y ∷ zs) (set_none xs i x h)

get_set : {A : Type 0} (xs : List A) (i : ℕ) (x y : A) → slice_get xs i ≡ Some x → slice_get (slice_set xs i y) i ≡ Some y
get_set [] i x y h = cc
get_set (z ∷ xs) zero x y h = refl
get_set (z ∷ xs) (suc i) x y h = get_set xs i x y h

-- in a table that there is, a row is put in its place
pub with_row-some : (T : Tables) (c : Place) (t : Table) (row : Option Row) → slice_get T c.table ≡ Some t → with_row T c row ≡ slice_set T c.table (put_row c.key row t)
unfolding with_row
with_row-some T c t row e = ap (λ x. slice_set T c.table (put_row c.key row (or_empty x))) e

-- and in one that there isn't nothing is
pub with_row-none : (T : Tables) (c : Place) (row : Option Row) → slice_get T c.table ≡ None → with_row T c row ≡ T
unfolding with_row
with_row-none T c row e = set_none T c.table _ e

row_back : (T : Tables) (c : Place) (row : Option Row) (found : Option Table) → slice_get T c.table ≡ found → with_row (with_row T c row) c (row_at T c) ≡ T
row_back T c row None e = ap (λ x. with_row x c (row_at T c)) (with_row-none T c row e) ∙ with_row-none T c (row_at T c) e
row_back T c row (Some t) e =
    let new = put_row c.key row t in
    ap (λ x. with_row x c (row_at T c)) (with_row-some T c t row e)
    ∙ with_row-some (slice_set T c.table new) c new (row_at T c) (get_set T c.table t new e)
    ∙ set_set T c.table new (put_row c.key (row_at T c) new)
    ∙ ap (λ x. slice_set T c.table (put_row c.key (get (or_empty x) c.key) new)) e
    ∙ ap (λ x. slice_set T c.table x) (put_back t c.key row)
    ∙ set_back T c.table t e

undone-one : (o : Old) (T : Tables) → undone (o ∷ []) T ≡ with_row T o.place o.row
unfolding undone
undone-one o T = refl

pub undone-push : (os : List Old) (o : Old) (T : Tables) → undone (os ++ o ∷ []) T ≡ undone os (with_row T o.place o.row)
unfolding undone
undone-push [] o T = refl
undone-push (p ∷ os) o T = ap (λ x. with_row x p.place p.row) (undone-push os o T)

undone-append : (os ps : List Old) (T : Tables) → undone (os ++ ps) T ≡ undone os (undone ps T)
unfolding undone
undone-append [] ps T = refl
undone-append (o ∷ os) ps T = ap (λ x. with_row x o.place o.row) (undone-append os ps T)

pub undone-nil : (T : Tables) → undone [] T ≡ T
unfolding undone
undone-nil T = refl

write_back : (w : Option (Option Row)) (c : Place) (T : Tables) → undone (old_row w c T) (after_write w c T) ≡ T
write_back None c T = undone-nil T
write_back (Some row) c T = undone-one _ (with_row T c row) ∙ row_back T c row (slice_get T c.table) refl

pub op_back : (o : TableOp) (T : Tables) → undone (old_of o T) (after o T) ≡ T
unfolding old_of after
op_back o T = write_back (write_of o T) (place_of o) T

pub ops_back : (os : List TableOp) (T : Tables) → undone (olds_of os T) (fed os T) ≡ T
ops_back [] T = undone-nil T
ops_back (o ∷ os) T = undone-append (old_of o T) (olds_of os (after o T)) (fed os (after o T)) ∙ ap (undone (old_of o T)) (ops_back os (after o T)) ∙ op_back o T
