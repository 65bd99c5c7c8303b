-- What operations answer and write, by the table that they name.
use Rattle.std.proofs.lemmas.Option.{slice_get_past}
use Rattle.std.proofs.Common.{◌≡◌, ℕ, zero, suc, ◌<◌, length, get_or, arith, List, [], ◌∷◌, Option, Some, None, slice_get, map, option_to_list, if◌then◌else◌, refl, sym, ap, ◌∙◌}
use Rattle.std.specs.Ordering.{int_cmp}
use Rattle.std.specs.FinMap.{empty, get, get-empty, values, len-empty, len-entries}
use Rattle.px_value.specs.declared.statement.Statement.{Statement}
use Rattle.px_value.specs.declared.statement.TableOp.{TableOp}
use Rattle.px_rows.specs.Tables.{Row, Tables, Place, or_empty, row_at, rows_of, with_row}
use Rattle.px_rows.specs.Means.{table_of, by_key, place_of, told, answer_to, seen_by, write_of, after_write, old_row, after, old_of, loaded, place_of_row}

pub answer_at : (o : TableOp) (T : Tables) (s : Statement) → o.statement ≡ s → answer_to o T ≡ told s o.params (if by_key s then option_to_list (row_at T (place_of o)) else rows_of T (table_of s))
unfolding answer_to seen_by
answer_at o T s e = ap (λ s. told s o.params (if by_key s then option_to_list (row_at T (place_of o)) else rows_of T (table_of s))) e

pub no_length : {A : Type 0} (es : List A) → length es ≡ 0 → es ≡ []
no_length [] e = refl
no_length (x ∷ es) e = absurd (omega arith)

-- ---- a table that there isn't

pub row_nowhere : (T : Tables) (c : Place) → slice_get T c.table ≡ None → row_at T c ≡ None
row_nowhere T c e = ap (λ x. get (or_empty x) c.key) e ∙ get-empty int_cmp c.key

pub rows_nowhere : (T : Tables) (n : ℕ) → slice_get T n ≡ None → rows_of T n ≡ []
rows_nowhere T n e = ap (λ x. values (or_empty x)) e ∙ ap (λ es. map (λ e. e.1) es) (no_length _ (sym (len-entries (empty {X = Row} {R = int_cmp})) ∙ len-empty int_cmp Row))

-- ---- what is written

pub after_idle : (o : TableOp) (T : Tables) → None ≡ write_of o T → T ≡ after o T
unfolding after
after_idle o T h = ap (λ w. after_write w (place_of o) T) h

pub old_idle : (o : TableOp) (T : Tables) → None ≡ write_of o T → [] ≡ old_of o T
unfolding old_of
old_idle o T h = ap (λ w. old_row w (place_of o) T) h

pub after_written : (o : TableOp) (T : Tables) (row : Option Row) → Some row ≡ write_of o T → with_row T (place_of o) row ≡ after o T
unfolding after
after_written o T row h = ap (λ w. after_write w (place_of o) T) h

pub old_written : (o : TableOp) (T : Tables) (row : Option Row) → Some row ≡ write_of o T → record { place = place_of o; row = row_at T (place_of o) } ∷ [] ≡ old_of o T
unfolding old_of
old_written o T row h = ap (λ w. old_row w (place_of o) T) h

pub loaded-is : (n : ℕ) (row : Row) (T : Tables) → with_row T (place_of_row n row) (Some row) ≡ loaded n row T
unfolding loaded
loaded-is n row T = refl

-- ---- a row in its place

pub slice_within : {A : Type 0} (xs : List A) (i : ℕ) (d : A) → i < length xs → slice_get xs i ≡ Some (get_or xs i d)
slice_within [] i d h = absurd (omega arith)
slice_within (x ∷ xs) zero d h = refl
slice_within (x ∷ xs) (suc i) d h = slice_within xs i d (omega arith)

-- an item that was read by its index
pub slice_read : {A : Type 0} (xs : List A) (i : ℕ) (x : A) → i < length xs → x ≡ get_or xs i x → slice_get xs i ≡ Some x
slice_read xs i x h e = slice_within xs i x h ∙ ap (λ y. Some y) (sym e)

pub slice_past : {A : Type 0} (xs : List A) (i : ℕ) → (i < length xs → ⊥) → slice_get xs i ≡ None
slice_past xs i h = slice_get_past xs i (omega (arith, h))
