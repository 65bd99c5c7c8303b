-- The parameters of a statement.
use Rattle.std.specs.Prelude.{ℕ, Bool, true, false, List, [], ◌∷◌, ◌++◌, map, slice_get, Option, Some, None}
use Rattle.px_value.specs.declared.schema.Schema.{Schema}
use Rattle.px_value.specs.declared.schema.Column.{Column}
use Rattle.px_value.specs.declared.schema.ColumnType.{ColumnType}
use Rattle.px_value.specs.declared.schema.ColumnType.TheVariants.{Long}
use Rattle.px_value.specs.declared.statement.Statement.{Statement}
use Rattle.px_value.specs.declared.statement.Statement.TheVariants.{ByKey, ByColumn, All, Update, Insert, Delete}
use Rattle.px_sql.specs.Words.{columns_of}

abbrev pub is_select : Statement → Bool
is_select (ByKey table columns) = true
is_select (ByColumn table columns column) = true
is_select (All table columns) = true
is_select statement = false

-- a column that isn't there counts as one of longs
abbrev pub type_of : Option Column → ColumnType
type_of None = Long
type_of (Some column) = column.ty

abbrev pub type_at : List Column → ℕ → ColumnType
type_at columns column = type_of (slice_get columns column)

abbrev pub parameters_of : List Column → Statement → List ColumnType
parameters_of columns (ByKey table places) = type_at columns 0 ∷ []
parameters_of columns (ByColumn table places column) = type_at columns column ∷ []
parameters_of columns (All table places) = []
parameters_of columns (Update table places) = map (type_at columns) places ++ type_at columns 0 ∷ []
parameters_of columns (Insert table) = map (λ c. c.ty) columns
parameters_of columns (Delete table) = type_at columns 0 ∷ []

abbrev pub table : Statement → ℕ
table (ByKey t columns) = t
table (ByColumn t columns column) = t
table (All t columns) = t
table (Update t columns) = t
table (Insert t) = t
table (Delete t) = t

-- the types of the parameters, in order
abbrev pub parameters : Schema → Statement → List ColumnType
parameters schema statement = parameters_of (columns_of schema (table statement)) statement
