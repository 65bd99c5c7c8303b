-- Each row stays one of its table's columns.
use Rattle.std.proofs.Common.{◌≡◌, ℕ, zero, suc, ℤ, Bool, true, false, cond, List, [], ◌∷◌, Option, Some, None, slice_get, slice_set, refl, sym, ap, subst, ◌∙◌}
use Rattle.std.specs.Ordering.{int_cmp, eq_by_cmp}
use Rattle.std.specs.FinMap.{empty, get, get-empty}
use Rattle.px_value.specs.declared.value.Value.{Value}
use Rattle.px_value.specs.declared.schema.ColumnType.{ColumnType}
use Rattle.px_value.specs.declared.schema.Table.{Table as Declared}
use Rattle.px_value.specs.declared.statement.Statement.{Statement}
use Rattle.px_value.specs.declared.statement.Statement.TheVariants.{ByKey, ByColumn, All, Update, Insert, Delete}
use Rattle.px_value.specs.declared.statement.TableOp.{TableOp}
use Rattle.px_rows.specs.Tables.{Row, Table, Tables, Place, or_empty, row_at, put_row, with_row, empty_tables}
use Rattle.px_rows.specs.Means.{table_of, place_of, place_of_row, assigned, written_by, after_write, after, loaded}
use Rattle.px_rows.specs.Typed.{AreOf, columns_at, AreTyped, IsOfColumn, AreOfColumns, WritesTyped}
use Rattle.px_rows.proofs.Back.{get-put_row, with_row-some, with_row-none}
use Rattle.px_rows.proofs.Does.{row_nowhere}

-- ---- rows of tables, whatever is said of them

-- what is said of the rows of a table
abbrev OfTable : (Row → Type 0) → Table → Type 0
OfTable P t = (k : ℤ) (row : Row) → get t k ≡ Some row → P row

abbrev OfTables : (ℕ → Row → Type 0) → Tables → Type 0
OfTables P T = (c : Place) (row : Row) → row_at T c ≡ Some row → P c.table row

chosen : (P : Type 0) (b : Bool) (x y : Option Row) (row : Row) → (x ≡ Some row → P) → (y ≡ Some row → P) → cond b x y ≡ Some row → P
chosen P true x y row f g e = f e
chosen P false x y row f g e = g e

put_keeps : (P : Row → Type 0) (t : Table) (k : ℤ) (new : Option Row) → OfTable P t → ((row : Row) → new ≡ Some row → P row) → OfTable P (put_row k new t)
put_keeps P t k new h g q row e = chosen (P row) (eq_by_cmp int_cmp q k) new (get t q) row (g row) (h q row) (sym (get-put_row t k q new) ∙ e)

some_is : (x y : Table) → Some x ≡ Some y → x ≡ y
some_is x y e = cc

set_keeps : (Q : ℕ → Table → Type 0) (T : Tables) (i : ℕ) (x : Table) → ((j : ℕ) (t : Table) → slice_get T j ≡ Some t → Q j t) → Q i x → (j : ℕ) (t : Table) → slice_get (slice_set T i x) j ≡ Some t → Q j t
set_keeps Q [] i x h g j t e = h j t e
set_keeps Q (y ∷ T) zero x h g zero t e = subst (λ z. Q zero z) (some_is x t e) g
set_keeps Q (y ∷ T) zero x h g (suc j) t e = h (suc j) t e
set_keeps Q (y ∷ T) (suc i) x h g zero t e = h zero t e
set_keeps Q (y ∷ T) (suc i) x h g (suc j) t e = set_keeps (λ n. Q (suc n)) T i x (λ n u f. h (suc n) u f) g j t e

by_table : (P : ℕ → Row → Type 0) (T : Tables) → OfTables P T → (j : ℕ) (t : Table) → slice_get T j ≡ Some t → OfTable (P j) t
by_table P T h j t e k row f = h (record { table = j; key = k }) row (ap (λ x. get (or_empty x) k) e ∙ f)

no_row : {A : Type 0} (row : Row) → None ≡ Some row → A
no_row row e = cc

by_place : (P : ℕ → Row → Type 0) (T : Tables) → ((j : ℕ) (t : Table) → slice_get T j ≡ Some t → OfTable (P j) t) → (c : Place) (row : Row) (found : Option Table) → slice_get T c.table ≡ found → row_at T c ≡ Some row → P c.table row
by_place P T h c row None e f = no_row row (sym (row_nowhere T c e) ∙ f)
by_place P T h c row (Some t) e f = h c.table t e c.key row (sym (ap (λ x. get (or_empty x) c.key) e) ∙ f)

with_keeps : (P : ℕ → Row → Type 0) (T : Tables) (c : Place) (new : Option Row) (found : Option Table) → slice_get T c.table ≡ found → OfTables P T → ((row : Row) → new ≡ Some row → P c.table row) → OfTables P (with_row T c new)
with_keeps P T c new None e h g = subst (λ (z : Tables). OfTables P z) (sym (with_row-none T c new e)) h
with_keeps P T c new (Some t) e h g =
    subst (λ (z : Tables). OfTables P z) (sym (with_row-some T c t new e)) (λ d row f.
    by_place P (slice_set T c.table (put_row c.key new t))
    (set_keeps (λ j. OfTable (P j)) T c.table (put_row c.key new t) (by_table P T h) (put_keeps (P c.table) t c.key new (by_table P T h c.table t e) g))
    d row (slice_get (slice_set T c.table (put_row c.key new t)) d.table) refl f)

-- ---- rows of columns

set_one : (ts : List ColumnType) (row : Row) (c : ℕ) (v : Value) → AreOf ts row → IsOfColumn (slice_get ts c) v → AreOf ts (slice_set row c v)
set_one [] [] c v h g = h
set_one (t ∷ ts) (w ∷ row) zero v h g = (g, h.1)
set_one (t ∷ ts) (w ∷ row) (suc c) v h g = (h.0, set_one ts row c v h.1 g)
set_one [] (w ∷ row) c v h g = absurd h
set_one (t ∷ ts) [] c v h g = absurd h

assigned_keeps : (ts : List ColumnType) (cs : List ℕ) (ps : List Value) (row : Row) → AreOf ts row → AreOfColumns ts cs ps → AreOf ts (assigned cs ps row)
assigned_keeps ts [] ps row h g = h
assigned_keeps ts (c ∷ cs) [] row h g = h
assigned_keeps ts (c ∷ cs) (p ∷ ps) row h g = assigned_keeps ts cs ps (slice_set row c p) (set_one ts row c p h g.0) g.1

-- ---- laws

some_row : (x y : Row) → Some x ≡ Some y → x ≡ y
some_row x y e = cc

no_table : {A : Type 0} (t : Table) → None ≡ Some t → A
no_table t e = cc

none_in : (P : Row → Type 0) (ds : List Declared) (j : ℕ) (t : Table) → slice_get (empty_tables ds) j ≡ Some t → OfTable P t
none_in P [] j t e k row f = no_table t e
none_in P (d ∷ ds) zero t e k row f = no_row row (sym (get-empty int_cmp k) ∙ ap (λ x. get x k) (some_is empty t e) ∙ f)
none_in P (d ∷ ds) (suc j) t e k row f = none_in P ds j t e k row f

pub empty_typed : (tables : List Declared) → AreTyped tables (empty_tables tables)
empty_typed tables c row e = by_place (λ n r. AreOf (columns_at tables n) r) (empty_tables tables) (λ j t f. none_in (λ r. AreOf (columns_at tables j) r) tables j t f) c row (slice_get (empty_tables tables) c.table) refl e

pub load_typed : (tables : List Declared) (T : Tables) (table : ℕ) (row : Row) → AreTyped tables T → AreOf (columns_at tables table) row → AreTyped tables (loaded table row T)
unfolding loaded
load_typed tables T table row h g =
    with_keeps (λ n r. AreOf (columns_at tables n) r) T (place_of_row table row) (Some row) (slice_get T table) refl h
    (λ r e. subst (λ (z : Row). AreOf (columns_at tables table) z) (some_row row r e) g)

-- what is written is a row of the table
written_typed : (tables : List Declared) (s : Statement) (params : List Value) (found : Option Row) → WritesTyped tables s params → ((r : Row) → found ≡ Some r → AreOf (columns_at tables (table_of s)) r) → (new : Option Row) → written_by s params found ≡ Some new → (r : Row) → new ≡ Some r → AreOf (columns_at tables (table_of s)) r
written_typed tables (Update table columns) params (Some row) g h new e r f =
    let same : assigned columns params row ≡ r = cc in
    subst (λ (z : Row). AreOf (columns_at tables table) z) same (assigned_keeps (columns_at tables table) columns params row (h row refl) g)
written_typed tables (Insert table) params None g h new e r f =
    let same : params ≡ r = cc in
    subst (λ (z : Row). AreOf (columns_at tables table) z) same g
written_typed tables (Delete table) params (Some row) g h new e r f = cc
written_typed tables (Update table columns) params None g h new e r f = cc
written_typed tables (Insert table) params (Some row) g h new e r f = cc
written_typed tables (Delete table) params None g h new e r f = cc
written_typed tables (ByKey table columns) params found g h new e r f = cc
written_typed tables (ByColumn table columns column) params found g h new e r f = cc
written_typed tables (All table columns) params found g h new e r f = cc

writes_typed : (tables : List Declared) (T : Tables) (c : Place) (w : Option (Option Row)) → AreTyped tables T → ((new : Option Row) → w ≡ Some new → (r : Row) → new ≡ Some r → AreOf (columns_at tables c.table) r) → AreTyped tables (after_write w c T)
writes_typed tables T c None h g = h
writes_typed tables T c (Some new) h g = with_keeps (λ n r. AreOf (columns_at tables n) r) T c new (slice_get T c.table) refl h (g new refl)

pub write_typed : (tables : List Declared) (o : TableOp) (T : Tables) → AreTyped tables T → WritesTyped tables o.statement o.params → AreTyped tables (after o T)
unfolding after
write_typed tables o T h g = writes_typed tables T (place_of o) _ h (written_typed tables o.statement o.params (row_at T (place_of o)) g (h (place_of o)))
