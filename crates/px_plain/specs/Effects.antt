-- Parts of what is done to what frames share, as the machine does them.
use Rattle.std.specs.Prelude.{ℕ, List, [], ◌∷◌, ◌++◌, length, nat_lt, nat_le, Result, Ok, Err, if◌then◌else◌}
use Rattle.px_value.specs.declared.value.Value.{Value}
use Rattle.px_value.specs.declared.value.Value.TheVariants.{Ref, Bool as Truth, Null}
use Rattle.px_value.specs.declared.object.Object.{Object}
use Rattle.px_value.specs.declared.header.Header.{Header}
use Rattle.px_value.specs.declared.header.Kind.{Kind}
use Rattle.px_value.specs.declared.statement.Statement.{Statement}
use Rattle.px_value.specs.declared.answer.Answer.{Answer}
use Rattle.px_value.specs.declared.answer.Answer.TheVariants.{Rows, Count, Refused}
use Rattle.px_value.specs.declared.thrown.Thrown.{Thrown}
use Rattle.px_value.specs.declared.thrown.Thrown.TheVariants.{HeapFull, OpsOut, SQLException}
use Rattle.px_value.specs.Heap.{written}
use Rattle.px_value.specs.Outcome.{Gives, Throws, then_run, ◌>>=◌, pure}
use Rattle.px_effects.specs.Run.{There, Ask, came_to, asked}
use Rattle.px_effects.specs.Act.{value_at, header_at, has_no_room}
use Rattle.px_effects.specs.Cells.{length_in, place_of, size_value}
use Rattle.px_effects.specs.Rows.{Statements, Standing, standing, width_at, moved, cell_in}
use Rattle.px_effects.specs.Operations.{max_operations, sent, operation_with}
use Rattle.px_effects.specs.Operations as operations

-- ---- cells

abbrev pub read_cell : {Q W : Type 0} → ℕ → ℕ → There Q W Value
read_cell object index = λ s. Gives (value_at s.heap object index) s

abbrev pub write_cell : {Q W : Type 0} → ℕ → ℕ → Value → There Q W (Unit {0})
write_cell object index value = λ s. Gives tt (record s { heap = written s.heap object index value })

-- how many cells an object has
abbrev pub size_at : List Object → ℕ → ℕ
size_at heap object = length_in (header_at heap object)

-- the place in an array
abbrev pub element_of : {Q W : Type 0} → ℕ → Value → There Q W ℕ
element_of object index = λ s. came_to (place_of index (size_at s.heap object)) s

-- ---- new objects

abbrev pub header_with : Kind → ℕ → List Value → Header
header_with kind site cells = record { kind = kind; site = site; length = length cells }

abbrev pub fresh_object : Kind → ℕ → List Value → Object
fresh_object kind site cells = record { header = header_with kind site cells; cells = cells }

abbrev pub allocate : {Q W : Type 0} → Kind → ℕ → List Value → There Q W Value
allocate kind site cells = λ s.
    if has_no_room kind (length cells) s.heap then Throws HeapFull s
    else Gives (Ref (length s.heap)) (record s { heap = s.heap ++ fresh_object kind site cells ∷ [] })

-- ---- result sets

abbrev pub standing_at : Statements → List Object → ℕ → Standing
standing_at statements heap object = standing (width_at statements (header_at heap object)) (size_at heap object) (value_at heap object 0)

-- a result set goes on to its next row
abbrev pub row_reached : {Q W : Type 0} → Statements → ℕ → There Q W Value
row_reached statements object = λ s. let p = standing_at statements s.heap object in then_run (write_cell object 0 (size_value (moved p)) s) (λ _. pure (Truth (nat_le (moved p) p.rows)))

-- the value of a column of a result set
abbrev pub column_value : {Q W : Type 0} → Statements → Value → ℕ → There Q W Value
column_value statements index object = λ s. then_run (came_to (cell_in (standing_at statements s.heap object) index) s) (read_cell object)

-- ---- operations

-- a question is counted, unless it is one too many
abbrev pub counted : {Q W : Type 0} → There Q W (Unit {0})
counted = λ s. if nat_lt s.operations max_operations then Gives tt (operations.counted s) else Throws OpsOut s

-- a statement of this number is asked: the tests of its parameters, then its count, then the tables
abbrev pub operate : {Q W : Type 0} → Ask Q W → ℕ → Statement → List Value → There Q W Answer
operate ask number statement values = came_to (sent values) >>= (λ params. counted >>= (λ _. asked ask (operation_with number statement params)))

-- how many rows were changed; a key that is there refuses a row
abbrev pub changed : Answer → Result Value Thrown
changed (Count n) = Ok (size_value n)
changed Refused = Err SQLException
changed (Rows width cells) = Ok Null
