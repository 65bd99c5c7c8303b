-- When tables hold values of their columns' types.
use Rattle.std.specs.Prelude.{◌≡◌, ◌≤◌, ℕ, ℤ, List, [], ◌∷◌, length, map, Option, Some, None, slice_get}
use Rattle.px_value.specs.Limits.{max_parameter}
use Rattle.px_value.specs.declared.value.Value.{Value}
use Rattle.px_value.specs.declared.value.Value.TheVariants.{Long, Text}
use Rattle.px_value.specs.declared.schema.ColumnType.{ColumnType}
use Rattle.px_value.specs.declared.schema.ColumnType.TheVariants as column
use Rattle.px_value.specs.declared.schema.Table.{Table as Declared}
use Rattle.px_value.specs.declared.statement.Statement.{Statement}
use Rattle.px_value.specs.declared.statement.Statement.TheVariants.{Update, Insert}
use Rattle.px_rows.specs.Tables.{Row, Tables, Place, row_at}

-- a value of a column
pub data IsOf : ColumnType → Value → Type 0 where
  long : (n : ℤ) → IsOf column.Long (Long n)
  text : (bytes : List ℕ) → length bytes ≤ max_parameter → IsOf column.Text (Text bytes)

-- a row: one value of each column, in their order
abbrev pub AreOf : List ColumnType → Row → Type 0
AreOf [] [] = Unit {0}
AreOf (t ∷ ts) (v ∷ vs) = IsOf t v × AreOf ts vs
AreOf _ _ = ⊥

abbrev pub columns_of : Option Declared → List ColumnType
columns_of None = []
columns_of (Some t) = map (λ c. c.ty) t.columns

-- the types of the columns of the table of a number, the key's first
abbrev pub columns_at : List Declared → ℕ → List ColumnType
columns_at tables number = columns_of (slice_get tables number)

-- each row that there is is one of its table
abbrev pub AreTyped : List Declared → Tables → Type 0
AreTyped tables T = (c : Place) (row : Row) → row_at T c ≡ Some row → AreOf (columns_at tables c.table) row

-- ---- what is written

-- nothing is written in a column that there isn't
abbrev pub IsOfColumn : Option ColumnType → Value → Type 0
IsOfColumn None v = Unit {0}
IsOfColumn (Some t) v = IsOf t v

-- the first parameters are values of these columns
abbrev pub AreOfColumns : List ColumnType → List ℕ → List Value → Type 0
AreOfColumns ts (c ∷ cs) (p ∷ ps) = IsOfColumn (slice_get ts c) p × AreOfColumns ts cs ps
AreOfColumns ts _ _ = Unit {0}

-- the parameters that an operation writes are values of the columns that it writes them in
abbrev pub WritesTyped : List Declared → Statement → List Value → Type 0
WritesTyped tables (Insert table) params = AreOf (columns_at tables table) params
WritesTyped tables (Update table columns) params = AreOfColumns (columns_at tables table) columns params
WritesTyped tables _ params = Unit {0}
