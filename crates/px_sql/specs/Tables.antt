-- The tables of a program. The first column of a table is its key.
use Rattle.std.specs.Prelude.{◌≡◌, ◌≤◌, ℕ, nat_lt, nat_le, Bool, true, false, not, ◌&&◌, List, [], ◌∷◌, ◌++◌, length, map, Option, Some, None, Result, Ok, Err, if◌then◌else◌}
use Rattle.std.specs.List.{list_all, list_any}
use Rattle.std.specs.Str.{bytes_eq}
use Rattle.px_tree.specs.declared.TableDecl.{TableDecl}
use Rattle.px_tree.specs.declared.Column.{Column as ColumnDecl}
use Rattle.px_value.specs.declared.schema.Schema.{Schema}
use Rattle.px_value.specs.declared.schema.Table.{Table}
use Rattle.px_value.specs.declared.schema.Column.{Column}
use Rattle.px_value.specs.declared.schema.ColumnType.{ColumnType}
use Rattle.px_value.specs.declared.schema.ColumnType.TheVariants.{Long, Text}
use Rattle.px_sql.specs.declared.schema.SchemaError.{SchemaError}
use Rattle.px_sql.specs.declared.schema.SchemaError.TheVariants.{NoMemory, BadTable}

-- ---- what is declared

abbrev pub type_of : Bool → ColumnType
type_of true = Text
type_of false = Long

abbrev pub column_of : ColumnDecl → Column
column_of c = record { name = c.name.bytes; ty = type_of c.text }

abbrev pub table_of : TableDecl → Table
table_of t = record { name = t.name.bytes; columns = map column_of t.columns }

-- ---- the rule of tables

abbrev pub max_tables : ℕ
max_tables = 100

abbrev pub max_columns : ℕ
max_columns = 16

abbrev pub has_table : List ℕ → List Table → Bool
has_table name tables = list_any (λ t. bytes_eq t.name name) tables

abbrev pub has_column : List ℕ → List Column → Bool
has_column name columns = list_any (λ c. bytes_eq c.name name) columns

-- no two columns have one name
abbrev pub differ : List Column → Bool
differ [] = true
differ (c ∷ cs) = not (has_column c.name cs) && differ cs

abbrev pub is_long : ColumnType → Bool
is_long Long = true
is_long Text = false

-- there is a first column, and it holds longs
abbrev pub is_long_first : List Column → Bool
is_long_first [] = false
is_long_first (c ∷ cs) = is_long c.ty

abbrev pub is_table : List Column → Bool
is_table columns = nat_le (length columns) max_columns && is_long_first columns && differ columns

-- a table keeps the rule behind the tables before it
abbrev pub keeps_rule : List Table → Table → Bool
keeps_rule before table = nat_lt (length before) max_tables && not (has_table table.name before) && is_table table.columns

-- the number of the first table that breaks the rule, where others stand before
abbrev pub breach_from : List Table → List Table → Option ℕ
breach_from before [] = None
breach_from before (t ∷ ts) = if keeps_rule before t then breach_from (before ++ t ∷ []) ts else Some (length before)

abbrev pub first_breach : List Table → Option ℕ
first_breach tables = breach_from [] tables

abbrev pub schema_unless : Option ℕ → List Table → Result Schema ℕ
schema_unless None tables = Ok (record { tables = tables })
schema_unless (Some index) tables = Err index

-- the tables, or the number of the first declaration that breaks the rule
abbrev pub schema_of : List TableDecl → Result Schema ℕ
schema_of declared = schema_unless (first_breach (map table_of declared)) (map table_of declared)

-- what was read is what is declared, unless memory ran out
abbrev pub IsRead : Result Schema SchemaError → Result Schema ℕ → Type 0
IsRead (Ok schema) told = told ≡ Ok schema
IsRead (Err (BadTable index)) told = told ≡ Err index
IsRead (Err NoMemory) told = Unit {0}

-- ---- tables that keep the rule

-- no two tables have one name
abbrev pub tables_differ : List Table → Bool
tables_differ [] = true
tables_differ (t ∷ ts) = not (has_table t.name ts) && tables_differ ts

pub record IsSchema (schema : Schema) : Type 0 where
  pub few : length schema.tables ≤ max_tables
  pub named : tables_differ schema.tables ≡ true
  pub all : list_all (λ t. is_table t.columns) schema.tables ≡ true

-- no more tables and columns than the rule allows
abbrev pub are_narrow : List Table → Bool
are_narrow tables = list_all (λ t. nat_le (length t.columns) max_columns) tables

abbrev pub is_small : Schema → Bool
is_small schema = nat_le (length schema.tables) max_tables && are_narrow schema.tables

abbrev pub IsSmall : Schema → Type 0
IsSmall schema = is_small schema ≡ true

-- what is read keeps the rule
abbrev pub SchemasKeepTheRule : Type 0
SchemasKeepTheRule = (declared : List TableDecl) (schema : Schema) → schema_of declared ≡ Ok schema → IsSchema schema
