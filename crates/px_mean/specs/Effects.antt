-- What expressions and statements do to what frames share.
use Rattle.std.specs.Prelude.{ℕ, List, [], map, Option, Some, None}
use Rattle.px_value.specs.declared.value.Value.{Value}
use Rattle.px_value.specs.declared.value.Value.TheVariants.{Null}
use Rattle.px_value.specs.declared.statement.Statement.{Statement}
use Rattle.px_value.specs.Outcome.{◌>>=◌, pure}
use Rattle.px_facts.specs.declared.types.Ty.{Ty}
use Rattle.px_facts.specs.declared.types.Ty.TheVariants as ty
use Rattle.px_facts.specs.declared.operation.Operation.{Operation}
use Rattle.px_facts.specs.declared.checked.Facts.{Facts}
pub use Rattle.px_effects.specs.Cells.{reference}
use Rattle.px_effects.specs.Act.{Act, does}
use Rattle.px_effects.specs.Cells as cells
use Rattle.px_effects.specs.Rows as rows
use Rattle.px_effects.specs.Cells.{Fresh, first_cells}
use Rattle.px_effects.specs.Rows.{Statements}
use Rattle.px_mean.specs.Run.{There}
use Rattle.px_mean.specs.Facts.{default_of, by_number, element_number}

-- ---- what acts need to know of a program

-- the cells of a new object of a class that has fields of these types (JLS 4.12.5)
abbrev pub fresh_with : List Ty → Fresh
fresh_with fields class = map default_of fields

-- for acts that make no object of a class
abbrev pub no_object : Fresh
no_object class = []

abbrev pub statement_in : Option Operation → Option Statement
statement_in None = None
statement_in (Some o) = Some o.statement

abbrev pub statements_of : Facts → Statements
statements_of F number = statement_in (by_number F.operations number)

abbrev pub acts : {Q W : Type 0} → Act → There Q W Value
acts act = does (first_cells no_object) act

-- what is done for its effect alone
abbrev pub only_acts : {Q W : Type 0} → Act → There Q W (Unit {0})
only_acts act = acts act >>= (λ v. pure tt)

-- ---- cells

abbrev pub get_field : {Q W : Type 0} → Value → ℕ → There Q W Value
get_field of place = acts (cells.get_field of place)

abbrev pub put_field : {Q W : Type 0} → Value → ℕ → Value → There Q W (Unit {0})
put_field of place value = only_acts (cells.put_field of place value)

abbrev pub array_length : {Q W : Type 0} → Value → There Q W Value
array_length of = acts (cells.array_length of)

abbrev pub load : {Q W : Type 0} → Value → Value → There Q W Value
load of index = acts (cells.load of index)

abbrev pub store : {Q W : Type 0} → Value → Value → Value → There Q W (Unit {0})
store of index value = only_acts (cells.store of index value)

-- ---- new objects

-- an object of a class with fields of these types (JLS 15.9.4)
abbrev pub new_object : {Q W : Type 0} → ℕ → ℕ → List Ty → There Q W Value
new_object class site fields = does (first_cells (fresh_with fields)) (cells.make_object (fresh_with fields) class site)

-- JLS 15.10.2
abbrev pub new_array : {Q W : Type 0} → ℕ → Ty → Value → There Q W Value
new_array site (ty.Array element) size = acts (cells.make_array (element_number element) site size)
new_array site _ size = pure Null

-- ---- result sets

-- `next()`: whether there is a row where the cursor is then
abbrev pub next : {Q W : Type 0} → Facts → Value → There Q W Value
next F of = acts (rows.next (statements_of F) of)

-- `getLong(i)` and `getString(i)`
abbrev pub get_long : {Q W : Type 0} → Facts → Value → Value → There Q W Value
get_long F of index = acts (rows.get_column (statements_of F) rows.long_in of index)

abbrev pub get_string : {Q W : Type 0} → Facts → Value → Value → There Q W Value
get_string F of index = acts (rows.get_column (statements_of F) rows.text_in of index)

-- ---- printed lines

abbrev pub print_line : {Q W : Type 0} → Value → There Q W (Unit {0})
print_line v = only_acts (cells.print_line v)
