-- Tables as values: of each table the rows by their keys.
use Rattle.std.specs.Prelude.{ℕ, ℤ, Bool, List, [], ◌∷◌, map, Option, Some, None, slice_get, slice_set}
use Rattle.std.specs.Ordering.{int_cmp}
use Rattle.std.specs.FinMap.{FinMap, empty, get, contains_key, insert, remove, values}
use Rattle.px_value.specs.declared.value.Value.{Value}
use Rattle.px_value.specs.declared.schema.Table.{Table as Declared}

abbrev pub Row : Type 0
Row = List Value

abbrev pub Table : Type 0
Table = FinMap int_cmp Row

-- by the number of the table
abbrev pub Tables : Type 0
Tables = List Table

-- where a row stands or would stand
pub record Place : Type 0 where
  pub table : ℕ
  pub key : ℤ

-- a place that was written, with what stood there before
pub record Old : Type 0 where
  pub place : Place
  pub row : Option Row

-- a table that there isn't has no rows
abbrev pub or_empty : Option Table → Table
or_empty None = empty
or_empty (Some t) = t

abbrev pub table_at : Tables → ℕ → Table
table_at T number = or_empty (slice_get T number)

abbrev pub row_at : Tables → Place → Option Row
row_at T c = get (table_at T c.table) c.key

abbrev pub has_key : Tables → Place → Bool
has_key T c = contains_key (table_at T c.table) c.key

-- one for each that is declared
abbrev pub empty_tables : List Declared → Tables
empty_tables tables = map (λ t. empty) tables

-- in order of the key
abbrev pub rows_of : Tables → ℕ → List Row
rows_of T number = values (table_at T number)

-- a table with this row, or none, at a key
unfoldable pub put_row : ℤ → Option Row → Table → Table
put_row k None t = remove t k
put_row k (Some row) t = insert t k row

-- the tables with this row, or none, at a place; in a table that there isn't nothing is written
unfoldable pub with_row : Tables → Place → Option Row → Tables
with_row T c row = slice_set T c.table (put_row c.key row (table_at T c.table))

-- the tables with the old rows put back, the latest first
unfoldable pub undone : List Old → Tables → Tables
undone [] T = T
undone (o ∷ os) T = with_row (undone os T) o.place o.row
