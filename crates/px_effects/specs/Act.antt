-- What one statement or expression asks of the heap, one thing after the other, and what it comes to.
use Rattle.std.specs.Prelude.{ℕ, ◌+◌, nat_lt, nat_le, Bool, true, false, ◌&&◌, ◌||◌, List, [], ◌∷◌, ◌++◌, length, Option, is_some, option_map, unwrap_or, slice_get, Ok, Err}
use Rattle.std.specs.List.{sum_by}
use Rattle.px_value.specs.declared.value.Value.{Value}
use Rattle.px_value.specs.declared.value.Value.TheVariants.{Null}
use Rattle.px_value.specs.declared.thrown.Thrown.TheVariants.{HeapFull, PrintsOut}
use Rattle.px_value.specs.declared.header.Header.{Header}
use Rattle.px_value.specs.declared.header.Kind.{Kind}
use Rattle.px_value.specs.declared.header.Kind.TheVariants as kind
use Rattle.px_value.specs.declared.object.Object.{Object}
pub use Rattle.px_value.specs.Limits.{max_prints, max_printed}
use Rattle.px_value.specs.Heap.{cell_at, written, heap_counted, max_counted, max_elements}
use Rattle.px_value.specs.Operators.{Applied}
use Rattle.px_value.specs.Outcome.{Outcome, Gives, Throws}
use Rattle.px_effects.specs.Run.{Shared, There}

-- What follows goes on with what is found, so that nothing of the heap is known but what was asked.
pub data Act : Type 0 where
  -- a value, or a throw
  Comes : Applied → Act
  -- prints a line, and then nothing more
  Prints : (line : List ℕ) → Act
  Reads : (object index : ℕ) → (Value → Act) → Act
  Writes : (object index : ℕ) → Value → Act → Act
  -- looks at the header of an object, where it is there
  Looks : (object : ℕ) → (Option Header → Act) → Act
  -- makes an object that has the first cells of its header, and goes on with its place
  Makes : Header → (ℕ → Act) → Act

-- the cells of a new object with a header
abbrev pub Firsts : Type 0
Firsts = Header → List Value

-- ---- on a heap

-- an object, and a place in it
pub record Place : Type 0 where
  pub object : ℕ
  pub index : ℕ

pub data Ends : Type 0 where
  Came : Applied → Ends
  Printed : (line : List ℕ) → Ends

-- what an act comes to on a heap, the heap that it leaves, and the cells that it read and wrote
pub record Acted : Type 0 where
  pub ends : Ends
  pub heap : List Object
  pub reads : List Place
  pub writes : List Place

-- a header with as many cells as there are
abbrev pub header_of : Object → Header
header_of o = record o.header { length = length o.cells }

abbrev pub header_at : List Object → ℕ → Option Header
header_at heap object = option_map header_of (slice_get heap object)

abbrev pub value_at : List Object → ℕ → ℕ → Value
value_at heap object index = unwrap_or (cell_at heap object index) Null

abbrev pub new_object : Firsts → Header → Object
new_object firsts h = record { header = h; cells = firsts h }

abbrev pub is_long : Kind → ℕ → Bool
is_long (kind.Array element) n = nat_lt max_elements n
is_long _ n = false

-- the heap would pass its limit, or an array has too many elements
abbrev pub has_no_room : Kind → ℕ → List Object → Bool
has_no_room kind n heap = nat_lt max_counted (heap_counted heap + (1 + n)) || is_long kind n

abbrev pub with_place_if : Bool → Place → List Place → List Place
with_place_if true p ps = p ∷ ps
with_place_if false p ps = ps

abbrev pub quiet : Ends → List Object → Acted
quiet ends heap = record { ends = ends; heap = heap; reads = []; writes = [] }

abbrev pub also_read : Place → Acted → Acted
also_read p a = record a { reads = p ∷ a.reads }

-- a write of a cell that isn't there, which no typed program makes, changes nothing
abbrev pub also_wrote : Bool → Place → Acted → Acted
also_wrote there p a = record a { writes = with_place_if there p a.writes }

abbrev pub unless_full : Bool → Acted → List Object → Acted
unless_full true after heap = quiet (Came (Err HeapFull)) heap
unless_full false after heap = after

abbrev pub acted : Firsts → Act → List Object → Acted
acted firsts (Comes a) heap = quiet (Came a) heap
acted firsts (Prints line) heap = quiet (Printed line) heap
acted firsts (Reads o i k) heap = also_read (record { object = o; index = i }) (acted firsts (k (value_at heap o i)) heap)
acted firsts (Writes o i v k) heap = also_wrote (is_some (cell_at heap o i)) (record { object = o; index = i }) (acted firsts k (written heap o i v))
acted firsts (Looks o k) heap = acted firsts (k (header_at heap o)) heap
acted firsts (Makes h k) heap = unless_full (has_no_room h.kind h.length heap) (acted firsts (k (length heap)) (heap ++ new_object firsts h ∷ [])) heap

-- ---- on what frames share

abbrev pub may_print : List ℕ → List (List ℕ) → Bool
may_print line prints = nat_lt (length prints) max_prints && nat_le (sum_by length prints + length line) max_printed

-- what an act comes to with the lines printed before, and the lines then
pub record Landed : Type 0 where
  pub value : Applied
  pub prints : List (List ℕ)

abbrev pub printed_if : Bool → List ℕ → List (List ℕ) → Landed
printed_if true line prints = record { value = Ok Null; prints = prints ++ line ∷ [] }
printed_if false line prints = record { value = Err PrintsOut; prints = prints }

abbrev pub landed : List (List ℕ) → Ends → Landed
landed prints (Came a) = record { value = a; prints = prints }
landed prints (Printed line) = printed_if (may_print line prints) line prints

-- what an act leaves
abbrev pub left : {W : Type 0} → Shared W → Acted → Landed → Shared W
left s a l = record s { heap = a.heap; prints = l.prints }

abbrev pub ended : {Q W : Type 0} → Applied → Shared W → Outcome Q (Shared W) Value
ended (Ok v) s = Gives v s
ended (Err t) s = Throws t s

abbrev pub came : {Q W : Type 0} → Shared W → Acted → Landed → Outcome Q (Shared W) Value
came s a l = ended l.value (left s a l)

abbrev pub settled : {Q W : Type 0} → Shared W → Acted → Outcome Q (Shared W) Value
settled s a = came s a (landed s.prints a.ends)

-- an act as a run
abbrev pub does : {Q W : Type 0} → Firsts → Act → There Q W Value
does firsts act = λ s. settled s (acted firsts act s.heap)
