-- What joins the tables, their places and the meaning of operations.
use Rattle.std.proofs.Common.{◌≡◌, ◌≢◌, ℕ, zero, suc, ℤ, ◌<◌, ◌≤◌, Bool, true, false, cond, ◌==◌, ◌&&◌, ◌||◌, List, [], ◌∷◌, ◌++◌, length, slice_get, slice_set, Option, Some, None, option_to_list, get_or, refl, sym, ap, ◌∙◌, subst, arith, inl, inr}
use Rattle.std.proofs.lemmas.Bool.{and_parts, and_from, or_parts, or_left, or_right, or_cases, eqb-true, eq-eqb, ne_eqb, cond-true, cond-false, both_ways, cases_Bool, cases_eq, cases_lt}
use Rattle.std.proofs.lemmas.Bool.Decides.{Decides-int_eq}
use Rattle.std.specs.Ordering.{int_cmp, eq_by_cmp}
use Rattle.std.specs.Cmp.{int_cmp_total}
use Rattle.std.specs.FinMap.{get, values, same_map, int_cmp-IsAntisymmetric}
use Rattle.px_value.specs.declared.statement.Statement.{Statement}
use Rattle.px_value.specs.declared.statement.Statement.TheVariants.{ByKey, ByColumn, All, Update, Insert, Delete}
use Rattle.px_value.specs.declared.value.Value.{Value}
use Rattle.px_value.specs.declared.statement.TableOp.{TableOp}
use Rattle.px_value.specs.declared.answer.Answer.{Answer}
use Rattle.px_rows.specs.Tables.{Row, Table, Tables, Place, Old, table_at, row_at, rows_of, put_row, with_row, undone}
use Rattle.px_rows.specs.Means.{table_of, by_key, place_of, written_by, write_of, after_write, after, old_row, old_of, seen_by, told, answer_to, fed, answers_to}
use Rattle.px_rows.proofs.Back.{get-put_row, with_row-some, with_row-none}
use Rattle.px_rows.proofs.Does.{row_nowhere, slice_within, slice_past}
use Rattle.px_history.specs.Places.{same_place, writes, touches, puts, touched, written, restored}

-- ---- places

pub same_place-eq : (c d : Place) → same_place c d ≡ true → c ≡ d
same_place-eq c d h =
    let p = and_parts _ _ h in
    let t = eqb-true c.table d.table p.0 in
    let k = (Decides-int_eq c.key d.key).0 p.1 in
    λ i. record { table = t i; key = k i }

pub same_place-refl : (c : Place) → same_place c c ≡ true
same_place-refl c = and_from _ _ (eq-eqb c.table c.table refl) ((Decides-int_eq c.key c.key).1 refl)

-- ---- rows at places

pub get_set_same : {A : Type 0} (xs : List A) (i : ℕ) (x y : A) → slice_get xs i ≡ Some x → slice_get (slice_set xs i y) i ≡ Some y
get_set_same [] i x y h = cc
get_set_same (z ∷ xs) zero x y h = refl
get_set_same (z ∷ xs) (suc i) x y h = get_set_same xs i x y h

pub get_set_other : {A : Type 0} (xs : List A) (i j : ℕ) (y : A) → j ≢ i → slice_get (slice_set xs i y) j ≡ slice_get xs j
get_set_other [] i j y n = refl
get_set_other (z ∷ xs) zero zero y n = absurd (n refl)
get_set_other (z ∷ xs) zero (suc j) y n = refl
get_set_other (z ∷ xs) (suc i) zero y n = refl
get_set_other (z ∷ xs) (suc i) (suc j) y n = get_set_other xs i j y (λ e. n (ap suc e))

pub length_set : {A : Type 0} (xs : List A) (i : ℕ) (y : A) → length (slice_set xs i y) ≡ length xs
length_set [] i y = refl
length_set (z ∷ xs) zero y = refl
length_set (z ∷ xs) (suc i) y = ap suc (length_set xs i y)

-- a table that there is, or that there isn't
found_in : (T : Tables) (n : ℕ) → n < length T → (t : Table) × (slice_get T n ≡ Some t)
found_in T n h = (get_or T n (first T n h), slice_within T n (first T n h) h)
  where
    first : (T : Tables) (n : ℕ) → n < length T → Table
    first [] n h = absurd (omega arith)
    first (t ∷ T) n h = t

pub missing : (T : Tables) (n : ℕ) → length T ≤ n → slice_get T n ≡ None
missing T n h = slice_past T n (λ l. omega arith)

pub row_missing : (T : Tables) (c : Place) → length T ≤ c.table → row_at T c ≡ None
row_missing T c h = row_nowhere T c (missing T c.table h)

row_in : (T : Tables) (d c : Place) (row : Option Row) (t : Table) → slice_get T d.table ≡ Some t → row_at (with_row T d row) c ≡ cond (same_place c d) row (row_at T c)
row_in T d c row t e = ap (λ (x : Tables). row_at x c) (with_row-some T d t row e) ∙ elim (cases_eq c.table d.table) [
  | inl q ↦
      let new = put_row d.key row t in
      let there : table_at (slice_set T d.table new) c.table ≡ new = ap (λ (n : ℕ). table_at (slice_set T d.table new) n) q ∙ ap Rattle.px_rows.specs.Tables.or_empty (get_set_same T d.table t new e) in
      let old : table_at T c.table ≡ t = ap (λ (n : ℕ). table_at T n) q ∙ ap Rattle.px_rows.specs.Tables.or_empty e in
      let b : (c.table == d.table) ≡ true = eq-eqb c.table d.table q in
      ap (λ (x : Table). get x c.key) there ∙ get-put_row t d.key c.key row ∙ ap (λ (x : Table). cond (eq_by_cmp int_cmp c.key d.key) row (get x c.key)) (sym old)
      ∙ ap (λ (x : Bool). cond (x && eq_by_cmp int_cmp c.key d.key) row (row_at T c)) (sym b)
  | inr n ↦
      let b : (c.table == d.table) ≡ false = ne_eqb c.table d.table n in
      ap (λ (o : Option Table). get (Rattle.px_rows.specs.Tables.or_empty o) c.key) (get_set_other T d.table c.table (put_row d.key row t) n)
      ∙ ap (λ (x : Bool). cond (x && eq_by_cmp int_cmp c.key d.key) row (row_at T c)) (sym b)
]

-- the row at a place after one is put at another, where that one's table is there
pub row_at-with_row : (T : Tables) (d c : Place) (row : Option Row) → d.table < length T → row_at (with_row T d row) c ≡ cond (same_place c d) row (row_at T c)
row_at-with_row T d c row h = let f = found_in T d.table h in row_in T d c row f.0 f.1

pub length_with_row : (T : Tables) (d : Place) (row : Option Row) → length (with_row T d row) ≡ length T
unfolding with_row
length_with_row T d row = length_set T d.table _

-- another place keeps its row
with_row_elsewhere : (T : Tables) (d c : Place) (row : Option Row) → same_place c d ≡ false → row_at (with_row T d row) c ≡ row_at T c
with_row_elsewhere T d c row s = elim (cases_lt d.table (length T)) [
  | inl l ↦ row_at-with_row T d c row l ∙ cond-false _ _ _ s
  | inr m ↦ ap (λ (x : Tables). row_at x c) (with_row-none T d row (missing T d.table (omega (arith, m))))
]

-- a table is its rows at its places
pub same_table : (T T' : Tables) (t : ℕ) → ((k : ℤ) → get (table_at T t) k ≡ get (table_at T' t) k) → table_at T t ≡ table_at T' t
same_table T T' t h = same_map int_cmp_total int_cmp-IsAntisymmetric (table_at T t) (table_at T' t) h

-- tables are their rows
pub same_tables : (T T' : Tables) → length T ≡ length T' → ((c : Place) → row_at T c ≡ row_at T' c) → T ≡ T'
same_tables [] [] l h = refl
same_tables [] (t ∷ T) l h = absurd (omega (arith, l))
same_tables (t ∷ T) [] l h = absurd (omega (arith, l))
same_tables (t ∷ T) (u ∷ U) l h =
    let a = same_table (t ∷ T) (u ∷ U) 0 (λ k. h (record { table = 0; key = k })) in
    let b = same_tables T U (omega (arith, l)) (λ c. h (record { table = suc c.table; key = c.key })) in
    λ i. a i ∷ b i

-- ---- one operation

seen_of : (o : TableOp) (T T' : Tables) (b : Bool) → by_key o.statement ≡ b → ((c : Place) → touches o c ≡ true → row_at T c ≡ row_at T' c) → seen_by o T ≡ seen_by o T'
unfolding seen_by touches
seen_of o T T' true e h =
    let r : row_at T (place_of o) ≡ row_at T' (place_of o) = h (place_of o) (ap (λ (b : Bool). cond b (same_place (place_of o) (place_of o)) (table_of o.statement == table_of o.statement)) e ∙ same_place-refl (place_of o)) in
    ap (λ (b : Bool). cond b (option_to_list (row_at T (place_of o))) (rows_of T (table_of o.statement))) e
    ∙ ap option_to_list r
    ∙ ap (λ (b : Bool). cond b (option_to_list (row_at T' (place_of o))) (rows_of T' (table_of o.statement))) (sym e)
seen_of o T T' false e h =
    let t : table_at T (table_of o.statement) ≡ table_at T' (table_of o.statement) = same_table T T' (table_of o.statement) (λ k. h (record { table = table_of o.statement; key = k }) (ap (λ (b : Bool). cond b (same_place (record { table = table_of o.statement; key = k }) (place_of o)) (table_of o.statement == table_of o.statement)) e ∙ eq-eqb (table_of o.statement) (table_of o.statement) refl)) in
    ap (λ (b : Bool). cond b (option_to_list (row_at T (place_of o))) (rows_of T (table_of o.statement))) e
    ∙ ap values t
    ∙ ap (λ (b : Bool). cond b (option_to_list (row_at T' (place_of o))) (rows_of T' (table_of o.statement))) (sym e)

-- an operation's answer is read at the places that it touches
pub answer_same : (o : TableOp) (T T' : Tables) → ((c : Place) → touches o c ≡ true → row_at T c ≡ row_at T' c) → answer_to o T ≡ answer_to o T'
unfolding answer_to
answer_same o T T' h = ap (told o.statement o.params) (seen_of o T T' (by_key o.statement) refl h)

-- ---- what an operation leaves

-- it writes only where its statement does
pub writes_if : (s : Statement) (params : List Value) (found : Option Row) (row : Option Row) → written_by s params found ≡ Some row → writes s ≡ true
writes_if (ByKey t cs) params found row h = cc
writes_if (ByColumn t cs c) params found row h = cc
writes_if (All t cs) params found row h = cc
writes_if (Update t cs) params found row h = refl
writes_if (Insert t) params found row h = refl
writes_if (Delete t) params found row h = refl

pub after_is : (o : TableOp) (T : Tables) (w : Option (Option Row)) → write_of o T ≡ w → after o T ≡ after_write w (place_of o) T
unfolding after
after_is o T w h = ap (λ (x : Option (Option Row)). after_write x (place_of o) T) h

pub old_is : (o : TableOp) (T : Tables) (w : Option (Option Row)) → write_of o T ≡ w → old_of o T ≡ old_row w (place_of o) T
unfolding old_of
old_is o T w h = ap (λ (x : Option (Option Row)). old_row x (place_of o) T) h

length_write : (w : Option (Option Row)) (c : Place) (T : Tables) → length (after_write w c T) ≡ length T
length_write None c T = refl
length_write (Some row) c T = length_with_row T c row

pub length_after : (o : TableOp) (T : Tables) → length (after o T) ≡ length T
length_after o T = ap length (after_is o T (write_of o T) refl) ∙ length_write (write_of o T) (place_of o) T

-- where it may write, it does so at its own place
pub puts_place : (o : TableOp) (c : Place) → puts o c ≡ true → c ≡ place_of o
unfolding puts
puts_place o c h = elim (cases_Bool (writes o.statement)) [
  | inl e ↦ same_place-eq c (place_of o) (ap (λ (b : Bool). cond b (same_place c (place_of o)) false) (sym e) ∙ h)
  | inr e ↦ absurd (both_ways _ (cond-false _ _ _ e) h)
]

pub puts_not : (o : TableOp) (c : Place) → writes o.statement ≡ true → puts o c ≡ false → same_place c (place_of o) ≡ false
unfolding puts
puts_not o c e h = ap (λ (b : Bool). cond b (same_place c (place_of o)) false) (sym e) ∙ h

elsewhere : (o : TableOp) (T : Tables) (c : Place) (w : Option (Option Row)) → write_of o T ≡ w → puts o c ≡ false → row_at (after_write w (place_of o) T) c ≡ row_at T c
elsewhere o T c None e h = refl
elsewhere o T c (Some row) e h = with_row_elsewhere T (place_of o) c row (puts_not o c (writes_if o.statement o.params (row_at T (place_of o)) row e) h)

pub after_elsewhere : (o : TableOp) (T : Tables) (c : Place) → puts o c ≡ false → row_at (after o T) c ≡ row_at T c
after_elsewhere o T c h = ap (λ (x : Tables). row_at x c) (after_is o T (write_of o T) refl) ∙ elsewhere o T c (write_of o T) refl h

abbrev left : Option (Option Row) → Option Row → Option Row
left None found = found
left (Some row) found = row

own_row : (T : Tables) (d : Place) (w : Option (Option Row)) → d.table < length T → row_at (after_write w d T) d ≡ left w (row_at T d)
own_row T d None l = refl
own_row T d (Some row) l = row_at-with_row T d d row l ∙ cond-true _ _ _ (same_place-refl d)

-- what it leaves at its own place is a matter of what it finds there
own_same : (o : TableOp) (T T' : Tables) → length T ≡ length T' → row_at T (place_of o) ≡ row_at T' (place_of o) → row_at (after o T) (place_of o) ≡ row_at (after o T') (place_of o)
own_same o T T' m h = elim (cases_lt (place_of o).table (length T)) [
  | inl l ↦
      ap (λ (x : Tables). row_at x (place_of o)) (after_is o T (write_of o T) refl) ∙ own_row T (place_of o) (write_of o T) l
      ∙ ap (λ (r : Option Row). left (written_by o.statement o.params r) r) h
      ∙ sym (ap (λ (x : Tables). row_at x (place_of o)) (after_is o T' (write_of o T') refl) ∙ own_row T' (place_of o) (write_of o T') (omega (arith, l, m)))
  | inr n ↦
      let a = length_after o T in
      let b = length_after o T' in
      row_missing (after o T) (place_of o) (omega (arith, n)) ∙ sym (row_missing (after o T') (place_of o) (omega (arith, n, m)))
]

pub after_same : (o : TableOp) (T T' : Tables) (c : Place) → length T ≡ length T' → row_at T c ≡ row_at T' c → row_at (after o T) c ≡ row_at (after o T') c
after_same o T T' c m h = elim (cases_Bool (puts o c)) [
  | inl p ↦ subst (λ (d : Place). row_at T d ≡ row_at T' d → row_at (after o T) d ≡ row_at (after o T') d) (sym (puts_place o c p)) (own_same o T T' m) h
  | inr p ↦ after_elsewhere o T c p ∙ h ∙ sym (after_elsewhere o T' c p)
]

pub writes_by_key : (s : Statement) → writes s ≡ true → by_key s ≡ true
writes_by_key (ByKey t cs) h = refl
writes_by_key (ByColumn t cs c) h = h
writes_by_key (All t cs) h = h
writes_by_key (Update t cs) h = refl
writes_by_key (Insert t) h = refl
writes_by_key (Delete t) h = refl

-- what is written is touched
touches_of : (o : TableOp) (c : Place) (b : Bool) → writes o.statement ≡ b → puts o c ≡ true → touches o c ≡ true
unfolding puts touches
touches_of o c true e h = ap (λ (b : Bool). cond b (same_place c (place_of o)) (c.table == table_of o.statement)) (writes_by_key o.statement e) ∙ ap (λ (b : Bool). cond b (same_place c (place_of o)) false) (sym e) ∙ h
touches_of o c false e h = absurd (both_ways _ (ap (λ (b : Bool). cond b (same_place c (place_of o)) false) e) h)

pub puts_touches : (o : TableOp) (c : Place) → puts o c ≡ true → touches o c ≡ true
puts_touches o c h = touches_of o c (writes o.statement) refl h

-- ---- lists of operations

pub fed-append : (os ps : List TableOp) (T : Tables) → fed (os ++ ps) T ≡ fed ps (fed os T)
fed-append [] ps T = refl
fed-append (o ∷ os) ps T = fed-append os ps (after o T)

pub length_fed : (os : List TableOp) (T : Tables) → length (fed os T) ≡ length T
length_fed [] T = refl
length_fed (o ∷ os) T = length_fed os (after o T) ∙ length_after o T

pub answers-append : (os ps : List TableOp) (T : Tables) → answers_to (os ++ ps) T ≡ answers_to os T ++ answers_to ps (fed os T)
answers-append [] ps T = refl
answers-append (o ∷ os) ps T = ap (λ (rest : List Answer). answer_to o T ∷ rest) (answers-append os ps (after o T))

or_assoc : (a b c : Bool) → ((a || b) || c) ≡ (a || (b || c))
or_assoc true b c = refl
or_assoc false b c = refl

or_last : (a : Bool) → (a || false) ≡ a
or_last true = refl
or_last false = refl

pub written-push : (os : List TableOp) (o : TableOp) (c : Place) → written (os ++ o ∷ []) c ≡ (written os c || puts o c)
written-push [] o c = or_last (puts o c)
written-push (p ∷ os) o c = ap (λ (b : Bool). puts p c || b) (written-push os o c) ∙ sym (or_assoc (puts p c) (written os c) (puts o c))

pub touched-push : (os : List TableOp) (o : TableOp) (c : Place) → touched (os ++ o ∷ []) c ≡ (touched os c || touches o c)
touched-push [] o c = or_last (touches o c)
touched-push (p ∷ os) o c = ap (λ (b : Bool). touches p c || b) (touched-push os o c) ∙ sym (or_assoc (touches p c) (touched os c) (touches o c))

pub written_touched : (os : List TableOp) (c : Place) → written os c ≡ true → touched os c ≡ true
written_touched [] c h = h
written_touched (o ∷ os) c h = elim (or_cases _ _ h) [
  | inl a ↦ or_left _ _ (puts_touches o c a)
  | inr b ↦ or_right _ _ (written_touched os c b)
]

pub fed_elsewhere : (os : List TableOp) (T : Tables) (c : Place) → written os c ≡ false → row_at (fed os T) c ≡ row_at T c
fed_elsewhere [] T c h = refl
fed_elsewhere (o ∷ os) T c h = let p = or_parts _ _ h in fed_elsewhere os (after o T) c p.1 ∙ after_elsewhere o T c p.0

lengths_after : (o : TableOp) (T T' : Tables) → length T ≡ length T' → length (after o T) ≡ length (after o T')
lengths_after o T T' m = length_after o T ∙ m ∙ sym (length_after o T')

pub fed_same : (os : List TableOp) (T T' : Tables) (c : Place) → length T ≡ length T' → row_at T c ≡ row_at T' c → row_at (fed os T) c ≡ row_at (fed os T') c
fed_same [] T T' c m h = h
fed_same (o ∷ os) T T' c m h = fed_same os (after o T) (after o T') c (lengths_after o T T' m) (after_same o T T' c m h)

-- the answers of a list of operations are read at the places that they touch
pub answers_same : (os : List TableOp) (T T' : Tables) → length T ≡ length T' → ((c : Place) → touched os c ≡ true → row_at T c ≡ row_at T' c) → answers_to os T ≡ answers_to os T'
answers_same [] T T' m h = refl
answers_same (o ∷ os) T T' m h =
    let a = answer_same o T T' (λ c t. h c (or_left _ _ t)) in
    let b = answers_same os (after o T) (after o T') (lengths_after o T T' m) (λ c t. after_same o T T' c m (h c (or_right _ _ t))) in
    λ i. a i ∷ b i

-- ---- old rows

pub length_undone : (os : List Old) (T : Tables) → length (undone os T) ≡ length T
unfolding undone
length_undone [] T = refl
length_undone (o ∷ os) T = length_with_row (undone os T) o.place o.row ∙ length_undone os T

undone_here : (o : Old) (os : List Old) (T : Tables) (c : Place) → c.table < length T → row_at (undone os T) c ≡ restored os c (row_at T c) → row_at (with_row (undone os T) o.place o.row) c ≡ restored (o ∷ os) c (row_at T c)
undone_here o os T c l i = elim (cases_Bool (same_place c o.place)) [
  | inl s ↦
      let t : c.table ≡ (o.place).table = ap (λ (d : Place). d.table) (same_place-eq c o.place s) in
      let n = length_undone os T in
      row_at-with_row (undone os T) o.place c o.row (omega arith) ∙ cond-true _ _ _ s ∙ sym (cond-true _ _ _ s)
  | inr s ↦ with_row_elsewhere (undone os T) o.place c o.row s ∙ i ∙ sym (cond-false _ _ _ s)
]

-- the row at a place whose table is there, once old rows are put back
pub row_at-undone : (os : List Old) (T : Tables) (c : Place) → c.table < length T → row_at (undone os T) c ≡ restored os c (row_at T c)
unfolding undone
row_at-undone [] T c l = refl
row_at-undone (o ∷ os) T c l = undone_here o os T c l (row_at-undone os T c l)
