-- The meaning of the six operations: what each answers, and the tables after it.
use Rattle.std.specs.Prelude.{ℕ, ℤ, pos, ◌-◌, min, Bool, true, false, List, [], ◌∷◌, ◌++◌, length, map, filter, flat_map, Option, Some, None, option_to_list, slice_get, slice_set, if◌then◌else◌}
use Rattle.std.specs.Ordering.{int_eq}
use Rattle.std.specs.Str.{bytes_eq}
use Rattle.px_value.specs.declared.value.Value.{Value}
use Rattle.px_value.specs.declared.value.Value.TheVariants.{Int, Long, Text, Null}
use Rattle.px_value.specs.declared.statement.Statement.{Statement}
use Rattle.px_value.specs.declared.statement.Statement.TheVariants.{ByKey, ByColumn, All, Update, Insert, Delete}
use Rattle.px_value.specs.declared.statement.TableOp.{TableOp}
use Rattle.px_value.specs.declared.answer.Answer.{Answer}
use Rattle.px_value.specs.declared.answer.Answer.TheVariants.{Rows, Count, Refused}
use Rattle.px_rows.specs.Tables.{Row, Tables, Place, Old, row_at, rows_of, with_row}

-- ---- places

abbrev pub table_of : Statement → ℕ
table_of (ByKey table columns) = table
table_of (ByColumn table columns column) = table
table_of (All table columns) = table
table_of (Update table columns) = table
table_of (Insert table) = table
table_of (Delete table) = table

-- it names one row by its key
abbrev pub by_key : Statement → Bool
by_key (ByColumn table columns column) = false
by_key (All table columns) = false
by_key _ = true

-- a key is a long; what isn't one goes for 0
abbrev pub key_value : Value → ℤ
key_value (Long k) = k
key_value _ = pos 0

abbrev pub or_null : Option Value → Value
or_null None = Null
or_null (Some v) = v

abbrev pub first_of : List Value → Value
first_of params = or_null (slice_get params 0)

abbrev pub last_of : List Value → Value
last_of params = or_null (slice_get params (length params - 1))

-- the key of an insert is its first parameter, and that of the others their last
abbrev pub key_of : Statement → List Value → ℤ
key_of (Insert table) params = key_value (first_of params)
key_of _ params = key_value (last_of params)

abbrev pub place_of : TableOp → Place
place_of o = record { table = table_of o.statement; key = key_of o.statement o.params }

-- ---- what is read

abbrev pub same_value : Value → Value → Bool
same_value (Int a) (Int b) = int_eq a b
same_value (Long a) (Long b) = int_eq a b
same_value (Text a) (Text b) = bytes_eq a b
same_value _ _ = false

abbrev pub column_of : Row → ℕ → Value
column_of row column = or_null (slice_get row column)

-- the cells of these columns, row by row
abbrev pub cells_of : List ℕ → List Row → List Value
cells_of columns rows = flat_map (λ row. map (column_of row) columns) rows

-- the rows with this value in a column
abbrev pub rows_with : ℕ → Value → List Row → List Row
rows_with column v rows = filter (λ row. same_value (column_of row column) v) rows

-- the rows that it looks at: the one at its key, or all of its table in order of the key
unfoldable pub seen_by : TableOp → Tables → List Row
seen_by o T = if by_key o.statement then option_to_list (row_at T (place_of o)) else rows_of T (table_of o.statement)

-- each row of so many cells; no table has more than 255 columns
abbrev pub selected : List ℕ → List Row → Answer
selected columns rows = Rows (min (length columns) 255) (cells_of columns rows)

abbrev pub inserted : List Row → Answer
inserted [] = Count 1
inserted (row ∷ rows) = Refused

-- what it says of the rows that it looks at
abbrev pub told : Statement → List Value → List Row → Answer
told (ByKey table columns) params rows = selected columns rows
told (ByColumn table columns column) params rows = selected columns (rows_with column (first_of params) rows)
told (All table columns) params rows = selected columns rows
told (Update table columns) params rows = Count (length rows)
told (Insert table) params rows = inserted rows
told (Delete table) params rows = Count (length rows)

unfoldable pub answer_to : TableOp → Tables → Answer
answer_to o T = told o.statement o.params (seen_by o T)

-- ---- what is written

-- a row with the first parameters in its columns
abbrev pub assigned : List ℕ → List Value → Row → Row
assigned [] params row = row
assigned (c ∷ cs) [] row = row
assigned (c ∷ cs) (p ∷ ps) row = assigned cs ps (slice_set row c p)

-- what it leaves in place of the row that it finds at its key, or that it writes nothing
abbrev pub written_by : Statement → List Value → Option Row → Option (Option Row)
written_by (Update table columns) params (Some row) = Some (Some (assigned columns params row))
written_by (Insert table) params None = Some (Some params)
written_by (Delete table) params (Some row) = Some None
written_by _ params found = None

abbrev pub write_of : TableOp → Tables → Option (Option Row)
write_of o T = written_by o.statement o.params (row_at T (place_of o))

abbrev pub after_write : Option (Option Row) → Place → Tables → Tables
after_write None c T = T
after_write (Some row) c T = with_row T c row

abbrev pub old_row : Option (Option Row) → Place → Tables → List Old
old_row None c T = []
old_row (Some row) c T = record { place = c; row = row_at T c } ∷ []

-- the tables after it
unfoldable pub after : TableOp → Tables → Tables
after o T = after_write (write_of o T) (place_of o) T

-- the old row that it leaves for an undo
unfoldable pub old_of : TableOp → Tables → List Old
old_of o T = old_row (write_of o T) (place_of o) T

abbrev pub place_of_row : ℕ → Row → Place
place_of_row table row = record { table = table; key = key_value (first_of row) }

-- the tables with one row more
unfoldable pub loaded : ℕ → Row → Tables → Tables
loaded table row T = with_row T (place_of_row table row) (Some row)

-- ---- operations one after the other

abbrev pub fed : List TableOp → Tables → Tables
fed [] T = T
fed (o ∷ os) T = fed os (after o T)

abbrev pub answers_to : List TableOp → Tables → List Answer
answers_to [] T = []
answers_to (o ∷ os) T = answer_to o T ∷ answers_to os (after o T)

abbrev pub olds_of : List TableOp → Tables → List Old
olds_of [] T = []
olds_of (o ∷ os) T = old_of o T ++ olds_of os (after o T)
