-- Result sets: rows in an object of the heap, and a cursor in its first cell.
use Rattle.std.specs.Prelude.{ℕ, zero, suc, ◌+◌, ◌-◌, ◌*◌, ◌/◌, nat_le, Bool, ◌&&◌, List, [], ◌∷◌, length, Option, Some, None, pos, Result, Ok, Err, if◌then◌else◌}
use Rattle.px_value.specs.declared.value.Value.{Value}
use Rattle.px_value.specs.declared.value.Value.TheVariants.{Int, Long, Bool as Truth, Text, Ref, Null}
use Rattle.px_value.specs.declared.header.Header.{Header}
use Rattle.px_value.specs.declared.header.Kind.{Kind}
use Rattle.px_value.specs.declared.header.Kind.TheVariants as kind
use Rattle.px_value.specs.declared.thrown.Thrown.{Thrown}
use Rattle.px_value.specs.declared.thrown.Thrown.TheVariants.{SQLException}
use Rattle.px_value.specs.declared.statement.Statement.{Statement}
use Rattle.px_value.specs.declared.statement.Statement.TheVariants as statement
use Rattle.px_value.specs.declared.answer.Answer.{Answer}
use Rattle.px_value.specs.declared.answer.Answer.TheVariants.{Rows, Count, Refused}
use Rattle.px_effects.specs.Act.{Act, Comes, Reads, Writes, Looks, Makes}
use Rattle.px_effects.specs.Cells.{comes, or_throws, at_object, length_in, size_value, rows_header}

-- ---- where a result set stands

-- how many columns and rows it has, and its cursor, which is 0 before the first row
pub record Standing : Type 0 where
  pub width : ℕ
  pub rows : ℕ
  pub cursor : ℕ

-- how many columns a statement selects
abbrev pub selected : Statement → ℕ
selected (statement.ByKey table columns) = length columns
selected (statement.ByColumn table columns column) = length columns
selected (statement.All table columns) = length columns
selected _ = 0

-- a program's statements by number, from 1
abbrev pub Statements : Type 0
Statements = ℕ → Option Statement

abbrev pub width_in : Option Statement → ℕ
width_in None = 0
width_in (Some s) = selected s

abbrev pub width_of : Statements → Kind → ℕ
width_of statements (kind.Rows number) = width_in (statements number)
width_of statements _ = 0

abbrev pub width_at : Statements → Option Header → ℕ
width_at statements None = 0
width_at statements (Some h) = width_of statements h.kind

-- so many cells are in rows of so many
abbrev pub rows_among : ℕ → ℕ → ℕ
rows_among cells zero = 0
rows_among cells (suc n) = (cells - 1) / suc n

abbrev pub cursor_in : Value → ℕ
cursor_in (Int (pos n)) = n
cursor_in _ = 0

abbrev pub standing : (width cells : ℕ) → Value → Standing
standing width cells cursor = record { width = width; rows = rows_among cells width; cursor = cursor_in cursor }

abbrev pub at_standing : Statements → Value → (ℕ → Standing → Act) → Act
at_standing statements of f = at_object of (λ object. Looks object (λ h. Reads object 0 (λ v. f object (standing (width_at statements h) (length_in h) v))))

-- ---- the cursor

-- on to the next row, and no further than one behind the last
abbrev pub moved : Standing → ℕ
moved p = if nat_le p.cursor p.rows then p.cursor + 1 else p.rows + 1

abbrev pub move_on : ℕ → Standing → Act
move_on object p = Writes object 0 (size_value (moved p)) (comes (Truth (nat_le (moved p) p.rows)))

-- `next()`: whether there is a row where the cursor is then
abbrev pub next : Statements → Value → Act
next statements of = at_standing statements of move_on

-- ---- columns

abbrev pub is_on_row : Standing → Bool
is_on_row p = nat_le 1 p.cursor && nat_le p.cursor p.rows

-- the cell of a column, which are numbered from 1, in the row of the cursor
abbrev pub cell_in : Standing → Value → Result ℕ Thrown
cell_in p (Int (pos i)) = if is_on_row p && (nat_le 1 i && nat_le i p.width) then Ok ((p.cursor - 1) * p.width + i) else Err SQLException
cell_in p _ = Err SQLException

abbrev pub long_in : Value → Result Value Thrown
long_in (Long n) = Ok (Long n)
long_in _ = Err SQLException

abbrev pub text_in : Value → Result Value Thrown
text_in (Text bytes) = Ok (Text bytes)
text_in _ = Err SQLException

-- `getLong(i)` and `getString(i)`: the value of a column that has the wanted type
abbrev pub get_column : Statements → (Value → Result Value Thrown) → Value → Value → Act
get_column statements wanted of index = at_standing statements of (λ object p. or_throws (cell_in p index) (λ i. Reads object i (λ v. Comes (wanted v))))

-- ---- what comes of an answer

-- values written into an object from a cell on
abbrev pub all_written : (object index : ℕ) → List Value → Act → Act
all_written object index [] after = after
all_written object index (v ∷ vs) after = Writes object index v (all_written object (suc index) vs after)

-- The rows become an object: it is made with its cursor and blank cells, and then its values are written, row by row.
abbrev pub make_rows : (number site : ℕ) → Answer → Act
make_rows number site (Rows width cells) = Makes (rows_header number site (length cells)) (λ object. all_written object 1 cells (comes (Ref object)))
make_rows number site _ = comes Null

-- how many rows were changed; a key that is there refuses a row
abbrev pub changed : Answer → Act
changed (Count n) = comes (size_value n)
changed Refused = Comes (Err SQLException)
changed (Rows width cells) = comes Null
