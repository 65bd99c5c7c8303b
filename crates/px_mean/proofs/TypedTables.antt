-- Tables of longs and texts answer typed, and keep such cells.
use Rattle.std.proofs.Common.{◌≡◌, ℕ, zero, suc, ◌<◌, nat_eq, ℤ, Bool, true, false, cond, not, ◌&&◌, if◌then◌else◌, List, [], ◌∷◌, ◌++◌, length, map, filter, Option, Some, None, option_to_list, slice_set, refl, sym, ap, ◌∙◌, subst, arith}
use Rattle.std.proofs.lemmas.Bool.{true≢false, eqb-true, eq-eqb}
use Rattle.std.specs.List.{list_all}
use Rattle.std.specs.Ordering.{int_cmp, is_eq, eq_by_cmp}
use Rattle.std.specs.declared.cmp.Ordering.{Ordering}
use Rattle.std.specs.declared.cmp.Ordering.TheVariants.{Less, Equal, Greater}
use Rattle.std.specs.Cmp.{int_cmp_total, eq_by_cmp_equiv}
use Rattle.std.specs.FinMap.{entries, entries_sorted, empty, get, insert, remove, values, from_sorted, find, put, same_map, int_cmp-IsAntisymmetric, entries-from_sorted, get-from_sorted, get-entries, entries-insert, get-remove, len-entries, len-empty}
use Rattle.std.specs.FinMap.Entries.{by_order, where_key, is_sorted-where_key, find-where_key}
use Rattle.px_value.specs.declared.value.Value.{Value}
use Rattle.px_value.specs.declared.value.Value.TheVariants.{Int, Long, Bool as Truth, Text, Null, Ref}
use Rattle.px_value.specs.declared.statement.Statement.{Statement}
use Rattle.px_value.specs.declared.statement.Statement.TheVariants as statement
use Rattle.px_value.specs.declared.statement.TableOp.{TableOp}
use Rattle.px_value.specs.declared.answer.Answer.{Answer}
use Rattle.px_value.specs.Outcome.{Outcome, Gives, Throws, Asks}
use Rattle.px_rows.specs.Tables.{Row, Table, Tables, Place, table_at, row_at, rows_of, put_row, with_row}
use Rattle.px_rows.specs.Means.{by_key, table_of, key_of, place_of, column_of, cells_of, rows_with, seen_by, told, answer_to, assigned, written_by, write_of, after_write, after}
use Rattle.px_facts.specs.declared.checked.Facts.{Facts}
use Rattle.px_mean.specs.Asks.{by_tables}
use Rattle.px_mean.specs.Typed as typed
use Rattle.px_mean.specs.Typed.{IsKept, is_kept, is_row, are_kept, AllKept}
use Rattle.px_mean.specs.TypedRuns.{IsAnswerTo, IsAsked, Passes, AnswersTyped, width_at, AllBelow, FitsTables, OperationsFit}

-- ---- rows

-- so wide, and of longs and texts
abbrev IsRow : ℕ → Row → Type 0
IsRow n row = (length row ≡ n) × AllKept row

abbrev AllRows : ℕ → List Row → Type 0
AllRows n [] = Unit {0}
AllRows n (row ∷ rows) = IsRow n row × AllRows n rows

abbrev AllTables : List ℕ → Tables → Type 0
AllTables [] [] = Unit {0}
AllTables (n ∷ widths) (t ∷ T) = AllRows n (values t) × AllTables widths T
AllTables _ _ = ⊥

cell_kept : (v : Value) → is_kept v ≡ true → IsKept v
cell_kept (Long n) e = typed.IsKept.long n
cell_kept (Text bytes) e = typed.IsKept.text bytes
cell_kept (Int n) e = absurd (true≢false (sym e))
cell_kept (Truth n) e = absurd (true≢false (sym e))
cell_kept Null e = absurd (true≢false (sym e))
cell_kept (Ref n) e = absurd (true≢false (sym e))

kept_cell : (v : Value) → IsKept v → is_kept v ≡ true
kept_cell _ (typed.IsKept.long n) = refl
kept_cell _ (typed.IsKept.text bytes) = refl

both_of : (a b : Bool) → (a && b) ≡ true → (a ≡ true) × (b ≡ true)
both_of true b e = (refl, e)
both_of false b e = absurd (true≢false (sym e))

of_both : (a b : Bool) → a ≡ true → b ≡ true → (a && b) ≡ true
of_both true b e d = d
of_both false b e d = e

row_kept : (row : Row) → list_all is_kept row ≡ true → AllKept row
row_kept [] e = tt
row_kept (v ∷ row) e = let b = both_of (is_kept v) (list_all is_kept row) e in (cell_kept v b.0, row_kept row b.1)

kept_row : (row : Row) → AllKept row → list_all is_kept row ≡ true
kept_row [] h = refl
kept_row (v ∷ row) h = of_both (is_kept v) (list_all is_kept row) (kept_cell v h.0) (kept_row row h.1)

whole_row : (n : ℕ) (row : Row) → is_row n row ≡ true → IsRow n row
whole_row n row e = let b = both_of (nat_eq (length row) n) (list_all is_kept row) e in (eqb-true (length row) n b.0, row_kept row b.1)

row_whole : (n : ℕ) (row : Row) → IsRow n row → is_row n row ≡ true
row_whole n row h = of_both (nat_eq (length row) n) (list_all is_kept row) (eq-eqb (length row) n h.0) (kept_row row h.1)

rows_kept : (n : ℕ) (rows : List Row) → list_all (is_row n) rows ≡ true → AllRows n rows
rows_kept n [] e = tt
rows_kept n (row ∷ rows) e = let b = both_of (is_row n row) (list_all (is_row n) rows) e in (whole_row n row b.0, rows_kept n rows b.1)

kept_rows : (n : ℕ) (rows : List Row) → AllRows n rows → list_all (is_row n) rows ≡ true
kept_rows n [] h = refl
kept_rows n (row ∷ rows) h = of_both (is_row n row) (list_all (is_row n) rows) (row_whole n row h.0) (kept_rows n rows h.1)

tables_kept : (widths : List ℕ) (T : Tables) → are_kept widths T ≡ true → AllTables widths T
tables_kept [] [] e = tt
tables_kept (n ∷ widths) (t ∷ T) e = let b = both_of (list_all (is_row n) (values t)) (are_kept widths T) e in (rows_kept n (values t) b.0, tables_kept widths T b.1)
tables_kept [] (t ∷ T) e = absurd (true≢false (sym e))
tables_kept (n ∷ widths) [] e = absurd (true≢false (sym e))

kept_tables : (widths : List ℕ) (T : Tables) → AllTables widths T → are_kept widths T ≡ true
kept_tables [] [] h = refl
kept_tables (n ∷ widths) (t ∷ T) h = of_both (list_all (is_row n) (values t)) (are_kept widths T) (kept_rows n (values t) h.0) (kept_tables widths T h.1)
kept_tables [] (t ∷ T) h = absurd h
kept_tables (n ∷ widths) [] h = absurd h

-- ---- entries of a table

abbrev Entries : Type 0
Entries = List (ℤ × Row)

abbrev rows_in : Entries → List Row
rows_in es = map (λ e. e.1) es

module _ (n : ℕ) where
  by_place : (o : Ordering) (k : ℤ) (row : Row) (e : ℤ × Row) (es rest : Entries) → IsRow n row → AllRows n (rows_in (e ∷ es)) → AllRows n (rows_in rest) → AllRows n (rows_in (by_order o ((k, row) ∷ e ∷ es) ((e.0, row) ∷ es) (e ∷ rest)))
  by_place Less k row e es rest h g n = (h, g)
  by_place Equal k row e es rest h g n = (h, g.1)
  by_place Greater k row e es rest h g n = (g.0, n)

  put_kept : (k : ℤ) (row : Row) (es : Entries) → IsRow n row → AllRows n (rows_in es) → AllRows n (rows_in (put int_cmp k row es))
  put_kept k row [] h g = (h, tt)
  put_kept k row (e ∷ es) h g = by_place (int_cmp k e.0) k row e es (put int_cmp k row es) h g (put_kept k row es h g.1)

  by_test : (b : Bool) (e : ℤ × Row) (es : Entries) → IsRow n e.1 → AllRows n (rows_in es) → AllRows n (rows_in (cond b (e ∷ es) es))
  by_test true e es h g = (h, g)
  by_test false e es h g = g

  where_kept : (p : ℤ → Bool) (es : Entries) → AllRows n (rows_in es) → AllRows n (rows_in (where_key int_cmp p es))
  where_kept p [] h = tt
  where_kept p (e ∷ es) h = by_test (p e.0) e (where_key int_cmp p es) h.0 (where_kept p es h.1)

  abbrev IfRow : Option Row → Type 0
  IfRow None = Unit {0}
  IfRow (Some row) = IsRow n row

  by_find : (b : Bool) (row : Row) (rest : Option Row) → IsRow n row → IfRow rest → IfRow (cond b (Some row) rest)
  by_find true row rest h g = h
  by_find false row rest h g = g

  find_kept : (k : ℤ) (es : Entries) → AllRows n (rows_in es) → IfRow (find int_cmp k es)
  find_kept k [] h = tt
  find_kept k (e ∷ es) h = by_find (eq_by_cmp int_cmp k e.0) e.1 (find int_cmp k es) h.0 (find_kept k es h.1)

  -- ---- tables

  get_kept : (t : Table) (k : ℤ) → AllRows n (values t) → IfRow (get t k)
  get_kept t k h = subst IfRow (sym (get-entries t k)) (find_kept k (entries t) h)

  insert_kept : (t : Table) (k : ℤ) (row : Row) → AllRows n (values t) → IsRow n row → AllRows n (values (insert t k row))
  insert_kept t k row h g = subst (λ (es : Entries). AllRows n (rows_in es)) (sym (entries-insert int_cmp_total t k row)) (put_kept k row (entries t) g h)

  turned : {A : Type 0} (b : Bool) (x y : A) → cond (not b) x y ≡ cond b y x
  turned true x y = refl
  turned false x y = refl

  abbrev without : ℤ → Table → Entries
  without k t = where_key int_cmp (λ q. not (is_eq (int_cmp k q))) (entries t)

  without_get : (t : Table) (k q : ℤ) → get (from_sorted {R = int_cmp} (without k t)) q ≡ get (remove t k) q
  without_get t k q =
      get-from_sorted int_cmp (without k t) q (is_sorted-where_key int_cmp (λ x. not (is_eq (int_cmp k x))) (entries t) (entries_sorted t))
      ∙ find-where_key int_cmp (λ x. not (is_eq (int_cmp k x))) q (λ x p. ap (λ y. not (is_eq (int_cmp k y))) (sym (int_cmp-IsAntisymmetric q x p))) (entries t)
      ∙ turned (is_eq (int_cmp k q)) (find int_cmp q (entries t)) None
      ∙ (λ i. cond ((eq_by_cmp_equiv int_cmp_total).symm k q i) None (sym (get-entries t q) i))
      ∙ sym (get-remove int_cmp_total t k q)

  remove_kept : (t : Table) (k : ℤ) → AllRows n (values t) → AllRows n (values (remove t k))
  remove_kept t k h =
      let e : from_sorted {R = int_cmp} (without k t) ≡ remove t k = same_map int_cmp_total int_cmp-IsAntisymmetric _ _ (without_get t k) in
      let s = is_sorted-where_key int_cmp (λ x. not (is_eq (int_cmp k x))) (entries t) (entries_sorted t) in
      subst (λ (m : Table). AllRows n (values m)) e (subst (λ (es : Entries). AllRows n (rows_in es)) (sym (entries-from_sorted int_cmp (without k t) s)) (where_kept (λ x. not (is_eq (int_cmp k x))) (entries t) h))

  no_rows : (es : Entries) → length es ≡ 0 → AllRows n (rows_in es)
  no_rows [] e = tt
  no_rows (x ∷ es) e = absurd (omega arith)

  empty_kept : AllRows n (values (empty {X = Row} {R = int_cmp}))
  empty_kept = no_rows (entries (empty {X = Row} {R = int_cmp})) (sym (len-entries (empty {X = Row} {R = int_cmp})) ∙ len-empty int_cmp Row)

  put_row_kept : (t : Table) (k : ℤ) (row : Option Row) → AllRows n (values t) → IfRow row → AllRows n (values (put_row k row t))
  unfolding put_row
  put_row_kept t k None h g = remove_kept t k h
  put_row_kept t k (Some row) h g = insert_kept t k row h g

-- ---- all tables

table_kept : (widths : List ℕ) (T : Tables) (n : ℕ) → AllTables widths T → AllRows (width_at widths n) (values (table_at T n))
table_kept [] [] n h = empty_kept (width_at [] n)
table_kept (m ∷ widths) (t ∷ T) zero h = h.0
table_kept (m ∷ widths) (t ∷ T) (suc n) h = table_kept widths T n h.1
table_kept [] (t ∷ T) n h = absurd h
table_kept (m ∷ widths) [] n h = absurd h

set_kept : (widths : List ℕ) (T : Tables) (n : ℕ) (t : Table) → AllTables widths T → AllRows (width_at widths n) (values t) → AllTables widths (slice_set T n t)
set_kept [] [] n t h g = tt
set_kept (m ∷ widths) (u ∷ T) zero t h g = (g, h.1)
set_kept (m ∷ widths) (u ∷ T) (suc n) t h g = (h.0, set_kept widths T n t h.1 g)
set_kept [] (u ∷ T) n t h g = absurd h
set_kept (m ∷ widths) [] n t h g = absurd h

with_row_kept : (widths : List ℕ) (T : Tables) (c : Place) (row : Option Row) → AllTables widths T → IfRow (width_at widths c.table) row → AllTables widths (with_row T c row)
unfolding with_row
with_row_kept widths T c row h g = set_kept widths T c.table (put_row c.key row (table_at T c.table)) h (put_row_kept (width_at widths c.table) (table_at T c.table) c.key row (table_kept widths T c.table h) g)

-- ---- what is read

row_in : (n : ℕ) (o : Option Row) → IfRow n o → AllRows n (option_to_list o)
row_in n None h = tt
row_in n (Some row) h = (h, tt)

seen_if : (n : ℕ) (b : Bool) (rows others : List Row) → AllRows n rows → AllRows n others → AllRows n (if b then rows else others)
seen_if n true rows others h g = h
seen_if n false rows others h g = g

seen_kept : (widths : List ℕ) (o : TableOp) (T : Tables) → AllTables widths T → AllRows (width_at widths (table_of o.statement)) (seen_by o T)
unfolding seen_by
seen_kept widths o T h =
    let c = place_of o in
    let n = width_at widths (table_of o.statement) in
    seen_if n (by_key o.statement) (option_to_list (row_at T c)) (rows_of T (table_of o.statement)) (row_in n (row_at T c) (get_kept n (table_at T c.table) c.key (table_kept widths T c.table h))) (table_kept widths T (table_of o.statement) h)

column_kept : (row : Row) (c : ℕ) → AllKept row → c < length row → IsKept (column_of row c)
column_kept [] c h l = let no : ⊥ = omega arith in absurd no
column_kept (v ∷ row) zero h l = h.0
column_kept (v ∷ row) (suc c) h l = column_kept row c h.1 (omega arith)

columns_kept : (n : ℕ) (row : Row) (columns : List ℕ) (rest : List Value) → IsRow n row → AllBelow n columns → AllKept rest → AllKept (map (column_of row) columns ++ rest)
columns_kept n row [] rest h b g = g
columns_kept n row (c ∷ cs) rest h b g = (column_kept row c h.1 (subst (λ (m : ℕ). c < m) (sym h.0) b.0), columns_kept n row cs rest h b.1 g)

cells_kept : (n : ℕ) (columns : List ℕ) (rows : List Row) → AllBelow n columns → AllRows n rows → AllKept (cells_of columns rows)
cells_kept n columns [] b h = tt
cells_kept n columns (row ∷ rows) b h = columns_kept n row columns (cells_of columns rows) h.0 b (cells_kept n columns rows b h.1)

row_by_test : (n : ℕ) (b : Bool) (row : Row) (rows : List Row) → IsRow n row → AllRows n rows → AllRows n (cond b (row ∷ rows) rows)
row_by_test n true row rows h g = (h, g)
row_by_test n false row rows h g = g

filtered : (n : ℕ) (p : Row → Bool) (rows : List Row) → AllRows n rows → AllRows n (filter p rows)
filtered n p [] h = tt
filtered n p (row ∷ rows) h = row_by_test n (p row) row (filter p rows) h.0 (filtered n p rows h.1)

told_typed : (widths : List ℕ) (s : Statement) (count : ℕ) (params : List Value) (rows : List Row) → FitsTables widths s count → AllRows (width_at widths (table_of s)) rows → IsAnswerTo s (told s params rows)
told_typed widths (statement.ByKey table columns) count params rows f h = (refl, cells_kept (width_at widths table) columns rows f h)
told_typed widths (statement.ByColumn table columns column) count params rows f h = (refl, cells_kept (width_at widths table) columns (rows_with column _ rows) f (filtered (width_at widths table) _ rows h))
told_typed widths (statement.All table columns) count params rows f h = (refl, cells_kept (width_at widths table) columns rows f h)
told_typed widths (statement.Update table columns) count params rows f h = tt
told_typed widths (statement.Insert table) count params [] f h = tt
told_typed widths (statement.Insert table) count params (row ∷ rows) f h = tt
told_typed widths (statement.Delete table) count params rows f h = tt

answer_typed : (widths : List ℕ) (count : ℕ) (o : TableOp) (T : Tables) → FitsTables widths o.statement count → AllTables widths T → IsAnswerTo o.statement (answer_to o T)
unfolding answer_to
answer_typed widths count o T f h = told_typed widths o.statement count o.params (seen_by o T) f (seen_kept widths o T h)

-- ---- what is written

cell_set : (row : Row) (c : ℕ) (v : Value) → AllKept row → IsKept v → AllKept (slice_set row c v)
cell_set [] c v h g = tt
cell_set (w ∷ row) zero v h g = (g, h.1)
cell_set (w ∷ row) (suc c) v h g = (h.0, cell_set row c v h.1 g)

as_wide : (row : Row) (c : ℕ) (v : Value) → length (slice_set row c v) ≡ length row
as_wide [] c v = refl
as_wide (w ∷ row) zero v = refl
as_wide (w ∷ row) (suc c) v = ap suc (as_wide row c v)

assigned_kept : (n : ℕ) (columns : List ℕ) (params : List Value) (row : Row) → AllKept params → IsRow n row → IsRow n (assigned columns params row)
assigned_kept n [] params row p h = h
assigned_kept n (c ∷ cs) [] row p h = h
assigned_kept n (c ∷ cs) (v ∷ params) row p h = assigned_kept n cs params (slice_set row c v) p.1 (as_wide row c v ∙ h.0, cell_set row c v h.1 p.0)

abbrev IfWrite : ℕ → Option (Option Row) → Type 0
IfWrite n None = Unit {0}
IfWrite n (Some row) = IfRow n row

written_kept : (widths : List ℕ) (s : Statement) (params : List Value) (found : Option Row) → FitsTables widths s (length params) → AllKept params → IfRow (width_at widths (table_of s)) found → IfWrite (width_at widths (table_of s)) (written_by s params found)
written_kept widths (statement.Update table columns) params (Some row) f p h = assigned_kept (width_at widths table) columns params row p h
written_kept widths (statement.Update table columns) params None f p h = tt
written_kept widths (statement.Insert table) params None f p h = (f, p)
written_kept widths (statement.Insert table) params (Some row) f p h = tt
written_kept widths (statement.Delete table) params (Some row) f p h = tt
written_kept widths (statement.Delete table) params None f p h = tt
written_kept widths (statement.ByKey table columns) params found f p h = tt
written_kept widths (statement.ByColumn table columns column) params found f p h = tt
written_kept widths (statement.All table columns) params found f p h = tt

after_write_kept : (widths : List ℕ) (w : Option (Option Row)) (c : Place) (T : Tables) → AllTables widths T → IfWrite (width_at widths c.table) w → AllTables widths (after_write w c T)
after_write_kept widths None c T h g = h
after_write_kept widths (Some row) c T h g = with_row_kept widths T c row h g

after_kept : (widths : List ℕ) (o : TableOp) (T : Tables) → AllTables widths T → FitsTables widths o.statement (length o.params) → AllKept o.params → AllTables widths (after o T)
unfolding after
after_kept widths o T h f p =
    let table = table_of o.statement in
    after_write_kept widths (write_of o T) (place_of o) T h (written_kept widths o.statement o.params (row_at T (place_of o)) f p (get_kept (width_at widths table) (table_at T table) (key_of o.statement o.params) (table_kept widths T table h)))

-- ---- all of it

module _ (Q : Type 0) where
  abbrev O : Type 0
  O = Outcome Q Tables Answer

  abbrev answer_in : Answer → O → Answer
  answer_in d (Gives a T) = a
  answer_in d (Throws t T) = d
  answer_in d (Asks q z) = d

  abbrev tables_in : Tables → O → Tables
  tables_in d (Gives a T) = T
  tables_in d (Throws t T) = T
  tables_in d (Asks q z) = d

  fitting : (widths : List ℕ) (F : Facts) (o : TableOp) → OperationsFit widths F → IsAsked F o → FitsTables widths o.statement (length o.params)
  fitting widths F o f p =
      subst (λ (s : Statement). FitsTables widths s (length o.params)) (sym p.statement) (subst (λ (n : ℕ). FitsTables widths p.operation.statement n) (sym p.count) (f p.number p.operation p.operation_is))

  pub tables_answer_typed : (widths : List ℕ) (F : Facts) → OperationsFit widths F → AnswersTyped {Q = Q} F by_tables (Passes (are_kept widths))
  tables_answer_typed widths F f o T i p a to e =
      let h = tables_kept widths T i in
      let fits = fitting widths F o f p in
      let x : answer_to o T ≡ a = ap (answer_in a) e in
      let y : after o T ≡ to = ap (tables_in to) e in
      (subst (λ (z : Tables). are_kept widths z ≡ true) y (kept_tables widths (after o T) (after_kept widths o T h fits p.kept)), subst (λ (z : Answer). IsAnswerTo o.statement z) x (answer_typed widths (length o.params) o T fits h))
