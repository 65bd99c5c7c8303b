-- A table is the map of its sorted entries.
use Rattle.std.proofs.Common.{◌≡◌, ℤ, Bool, true, false, cond, not, [], length, Some, None, refl, sym, ap, ◌∙◌}
use Rattle.std.specs.Ordering.{int_cmp, is_eq}
use Rattle.std.specs.Cmp.{int_cmp_total, eq_by_cmp_equiv}
use Rattle.std.specs.FinMap.{empty, get, insert, remove, values, from_sorted, find, put, same_entries_map, same_map, int_cmp-IsAntisymmetric, entries-from_sorted, get-from_sorted, entries-insert, get-remove, len-entries, empty_of_len}
use Rattle.std.specs.FinMap.Entries.{is_sorted-put, is_sorted-where_key, find-where_key}
use Rattle.px_rows.specs.Tables.{Row, Table, put_row}
use Rattle.px_rows.specs.Entries.{Entries, IsSorted, without, rows_in}

pub none_seen : from_sorted {R = int_cmp} [] ≡ empty {X = Row}
none_seen = empty_of_len (from_sorted []) (len-entries _ ∙ ap length (entries-from_sorted int_cmp [] tt))

pub get_seen : (es : Entries) (t : Table) (k : ℤ) → IsSorted es → from_sorted es ≡ t → find int_cmp k es ≡ get t k
get_seen es t k s e = sym (get-from_sorted int_cmp es k s) ∙ ap (λ m. get m k) e

pub rows_seen : (es : Entries) (t : Table) → IsSorted es → from_sorted es ≡ t → rows_in es ≡ values t
rows_seen es t s e = ap rows_in (sym (entries-from_sorted int_cmp es s)) ∙ ap (λ m. values m) e

pub sorted_put : (k : ℤ) (v : Row) (es : Entries) → IsSorted es → IsSorted (put int_cmp k v es)
sorted_put k v es s = is_sorted-put int_cmp int_cmp_total k v es s

pub sorted_without : (k : ℤ) (es : Entries) → IsSorted es → IsSorted (without k es)
sorted_without k es s = is_sorted-where_key int_cmp (λ q. not (is_eq (int_cmp k q))) es s

pub put_seen : (es : Entries) (t : Table) (k : ℤ) (v : Row) → IsSorted es → from_sorted es ≡ t → from_sorted (put int_cmp k v es) ≡ put_row k (Some v) t
unfolding put_row
put_seen es t k v s e =
    same_entries_map _ _ (entries-from_sorted int_cmp (put int_cmp k v es) (sorted_put k v es s) ∙ sym (entries-insert int_cmp_total (from_sorted es) k v ∙ ap (put int_cmp k v) (entries-from_sorted int_cmp es s)))
    ∙ ap (λ m. insert m k v) e

turned : {A : Type 0} (b : Bool) (x y : A) → cond (not b) x y ≡ cond b y x
turned true x y = refl
turned false x y = refl

found_without : (es : Entries) (k q : ℤ) → IsSorted es → get (from_sorted {R = int_cmp} (without k es)) q ≡ get (remove (from_sorted {R = int_cmp} es) k) q
found_without es k q s =
    get-from_sorted int_cmp (without k es) q (sorted_without k es s)
    ∙ find-where_key int_cmp (λ x. not (is_eq (int_cmp k x))) q (λ x p. ap (λ y. not (is_eq (int_cmp k y))) (sym (int_cmp-IsAntisymmetric q x p))) es
    ∙ turned (is_eq (int_cmp k q)) (find int_cmp q es) None
    ∙ (λ i. cond ((eq_by_cmp_equiv int_cmp_total).symm k q i) None (sym (get-from_sorted int_cmp es q s) i))
    ∙ sym (get-remove int_cmp_total (from_sorted es) k q)

pub without_seen : (es : Entries) (t : Table) (k : ℤ) → IsSorted es → from_sorted es ≡ t → from_sorted (without k es) ≡ put_row k None t
unfolding put_row
without_seen es t k s e = same_map int_cmp_total int_cmp-IsAntisymmetric _ _ (λ q. found_without es k q s) ∙ ap (λ m. remove m k) e
