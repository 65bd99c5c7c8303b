-- Tables and columns are found by their names.
use Rattle.std.proofs.Common.{◌≡◌, ◌≤◌, ◌<◌, ℕ, ◌+◌, true, false, not, ◌&&◌, nat_lt, nat_le, List, [], ◌∷◌, length, map, slice_get, suc, zero, refl, arith}
use Rattle.std.specs.List.{list_all}
use Rattle.std.specs.Str.{bytes_eq}
use Rattle.std.proofs.lemmas.Cmp.{nat_list_eq_equiv}
use Rattle.px_value.specs.declared.schema.Schema.{Schema}
use Rattle.px_value.specs.declared.schema.Table.{Table}
use Rattle.px_value.specs.declared.schema.Column.{Column}
use Rattle.px_sql.specs.Tables.{has_table, has_column, differ, tables_differ, is_table, is_long_first, IsSchema, IsSmall, max_tables, max_columns}
use Rattle.px_sql.specs.Words.{table_name, table_columns, name_of, columns_of, name_at}
use Rattle.px_sql.specs.Reading.{table_place, column_place, places_of}
use Rattle.px_sql.proofs.Truths.{and_first, and_second, or_first, or_second, not_true}

pub same_name : (name : List ℕ) → bytes_eq name name ≡ true
same_name name = nat_list_eq_equiv.refl name

other_table : (name : List ℕ) (tables : List Table) (n : ℕ) → n < length tables → has_table name tables ≡ false → bytes_eq (table_name (slice_get tables n)) name ≡ false
other_table name [] n l h = absurd (omega arith)
other_table name (t ∷ ts) zero l h = or_first (bytes_eq t.name name) (has_table name ts) h
other_table name (t ∷ ts) (suc n) l h = other_table name ts n (omega arith) (or_second (bytes_eq t.name name) (has_table name ts) h)

one_on : {m n : ℕ} → m ≡ n → m + 1 ≡ suc n
one_on e = omega (arith, e)

table_found : (tables : List Table) (n : ℕ) → tables_differ tables ≡ true → n < length tables → table_place (table_name (slice_get tables n)) tables ≡ n
table_found [] n d l = absurd (omega arith)
table_found (t ∷ ts) zero d l =
    let same : bytes_eq t.name t.name ≡ true = same_name t.name in
    rw same refl
table_found (t ∷ ts) (suc n) d l =
    let other : bytes_eq (table_name (slice_get ts n)) t.name ≡ false = other_table t.name ts n (omega arith) (not_true _ (and_first (not (has_table t.name ts)) (tables_differ ts) d)) in
    let on : table_place (table_name (slice_get ts n)) ts ≡ n = table_found ts n (and_second (not (has_table t.name ts)) (tables_differ ts) d) (omega arith) in
    rw other (one_on on)

other_column : (name : List ℕ) (columns : List Column) (n : ℕ) → n < length columns → has_column name columns ≡ false → bytes_eq (name_at columns n) name ≡ false
other_column name [] n l h = absurd (omega arith)
other_column name (t ∷ ts) zero l h = or_first (bytes_eq t.name name) (has_column name ts) h
other_column name (t ∷ ts) (suc n) l h = other_column name ts n (omega arith) (or_second (bytes_eq t.name name) (has_column name ts) h)

pub column_found : (columns : List Column) (n : ℕ) → differ columns ≡ true → n < length columns → column_place (name_at columns n) columns ≡ n
column_found [] n d l = absurd (omega arith)
column_found (t ∷ ts) zero d l =
    let same : bytes_eq t.name t.name ≡ true = same_name t.name in
    rw same refl
column_found (t ∷ ts) (suc n) d l =
    let other : bytes_eq (name_at ts n) t.name ≡ false = other_column t.name ts n (omega arith) (not_true _ (and_first (not (has_column t.name ts)) (differ ts) d)) in
    let on : column_place (name_at ts n) ts ≡ n = column_found ts n (and_second (not (has_column t.name ts)) (differ ts) d) (omega arith) in
    rw other (one_on on)

pub below : (a b : ℕ) → nat_lt a b ≡ true → a < b
below a b h = grind (arith, h)

pub columns_found : (columns : List Column) (places : List ℕ) → differ columns ≡ true → list_all (λ c. nat_lt c (length columns)) places ≡ true → places_of columns (map (λ c. name_at columns c) places) ≡ places
columns_found columns [] d h = refl
columns_found columns (c ∷ cs) d h =
    let one : column_place (name_at columns c) columns ≡ c = column_found columns c d (below c _ (and_first (nat_lt c (length columns)) _ h)) in
    let more : places_of columns (map (λ c. name_at columns c) cs) ≡ cs = columns_found columns cs d (and_second (nat_lt c (length columns)) _ h) in
    cc

-- the columns of each table keep the rule, and so do none
kept : (tables : List Table) (n : ℕ) → list_all (λ t. is_table t.columns) tables ≡ true → (nat_le (length (table_columns (slice_get tables n))) 16 ≡ true) × (differ (table_columns (slice_get tables n)) ≡ true)
kept [] n h = (refl, refl)
kept (t ∷ ts) zero h =
    let one : is_table t.columns ≡ true = and_first (is_table t.columns) _ h in
    (and_first (nat_le (length t.columns) 16) (is_long_first t.columns) (and_first (nat_le (length t.columns) 16 && is_long_first t.columns) (differ t.columns) one), and_second (nat_le (length t.columns) 16 && is_long_first t.columns) (differ t.columns) one)
kept (t ∷ ts) (suc n) h = kept ts n (and_second (is_table t.columns) _ h)

narrow_by : (n : ℕ) → nat_le n 16 ≡ true → n ≤ 16
narrow_by n h = grind (arith, h)

few_columns : (tables : List Table) (n : ℕ) → list_all (λ t. nat_le (length t.columns) max_columns) tables ≡ true → nat_le (length (table_columns (slice_get tables n))) 16 ≡ true
few_columns [] n h = refl
few_columns (t ∷ ts) zero h = and_first (nat_le (length t.columns) 16) _ h
few_columns (t ∷ ts) (suc n) h = few_columns ts n (and_second (nat_le (length t.columns) 16) _ h)

pub narrow : (schema : Schema) (table : ℕ) → IsSmall schema → length (columns_of schema table) ≤ 16
narrow schema table small = narrow_by (length (columns_of schema table)) (few_columns schema.tables table (and_second (nat_le (length schema.tables) max_tables) _ small))

few_tables : (n : ℕ) → nat_le n max_tables ≡ true → n ≤ 100
few_tables n h = grind (arith, h)

pub few : (schema : Schema) → IsSmall schema → length schema.tables ≤ 100
few schema small = few_tables (length schema.tables) (and_first (nat_le (length schema.tables) max_tables) _ small)

pub columns_differ : (schema : Schema) (table : ℕ) → IsSchema schema → differ (columns_of schema table) ≡ true
columns_differ schema table is = (kept schema.tables table is.all).1

pub found : (schema : Schema) (table : ℕ) → IsSchema schema → nat_lt table (length schema.tables) ≡ true → table_place (name_of schema table) schema.tables ≡ table
found schema table is h = table_found schema.tables table is.named (below table _ h)
