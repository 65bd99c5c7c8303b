-- Which messages an end takes in.
use Rattle.std.specs.Prelude.{◌≡◌, ℕ, ◌+◌, nat_eq, nat_lt, nat_le, Bool, true, false, ◌&&◌, List, [], ◌∷◌, ◌++◌, map, length, Option, Some, None, is_some, slice_get, slice_set}
use Rattle.std.specs.List.{list_all}
use Rattle.px_value.specs.declared.value.Value.{Value}
use Rattle.px_value.specs.declared.value.Value.TheVariants.{Ref}
use Rattle.px_value.specs.declared.header.Header.{Header}
use Rattle.px_value.specs.declared.header.Kind.{Kind}
use Rattle.px_value.specs.declared.header.Kind.TheVariants as kind
use Rattle.px_value.specs.declared.object.Object.{Object}
use Rattle.px_value.specs.Heap.{cell_at, heap_counted, max_counted, max_elements}
use Rattle.px_normal.specs.declared.code.Code.{Code}
use Rattle.px_normal.specs.First.{fields_of, fresh_of}
use Rattle.px_effects.specs.Act.{new_object}
use Rattle.px_effects.specs.Cells.{first_cells}
use Rattle.px_blocks.specs.Plan.{Plan}
use Rattle.px_blocks.specs.Machine.{Frame, slots_at, unwritten}
use Rattle.px_blocks.specs.Message.{SlotAt, CellAt, Updates, Transfer, standing}

-- ---- new objects

-- an object has a cell for each field of its class, and an array no more elements than there may be
abbrev pub kind_fits : Code → Kind → ℕ → Bool
kind_fits code (kind.Object class) n = nat_eq (length (fields_of code class)) n
kind_fits code (kind.Array element) n = nat_le n max_elements
kind_fits code (kind.Rows statement) n = true

-- beside so many objects and cells there is room for it
abbrev pub header_fits : Code → ℕ → Header → Bool
header_fits code counted h = kind_fits code h.kind h.length && nat_le (counted + (1 + h.length)) max_counted

abbrev pub news_fit : Code → ℕ → List Header → Bool
news_fit code counted [] = true
news_fit code counted (h ∷ hs) = header_fits code counted h && news_fit code (counted + (1 + h.length)) hs

abbrev pub with_news : Code → List Header → List Object → List Object
with_news code hs heap = heap ++ map (new_object (first_cells (fresh_of code))) hs

-- all were added, or some don't fit
abbrev pub Adds : Bool → Code → List Header → List Object → List Object → Type 0
Adds true code headers old new = (news_fit code (heap_counted old) headers ≡ true) × (new ≡ with_news code headers old)
Adds false code headers old new = news_fit code (heap_counted old) headers ≡ false

-- ---- cells and slots

-- a reference leads to one of the first n objects
abbrev pub leads : ℕ → Value → Bool
leads n (Ref o) = nat_lt o n
leads n v = true

abbrev pub cell_fits : List Object → CellAt → Bool
cell_fits heap c = is_some (cell_at heap c.object c.index) && leads (length heap) c.value

abbrev pub slot_fits : List Frame → ℕ → SlotAt → Bool
slot_fits frames n s = is_some (slice_get (slots_at frames s.frame) s.slot) && leads n s.value

-- ---- messages

abbrev pub updates_fit : Code → Updates → List Object → Bool
updates_fit code u heap = news_fit code (heap_counted heap) u.headers && list_all (cell_fits (with_news code u.headers heap)) u.cells

abbrev pub slots_fit : Plan → Transfer → List Frame → List Object → Bool
slots_fit plan t frames heap = list_all (slot_fits (standing plan t.base t.frames frames) (length (with_news plan.code t.updates.headers heap))) t.slots

abbrev pub is_taken : Plan → Transfer → List Frame → List Object → Bool
is_taken plan t frames heap = nat_le t.base (length frames) && (updates_fit plan.code t.updates heap && slots_fit plan t frames heap)

-- ---- slots that the other end wrote

abbrev pub placed_in : Option Frame → ℕ → Value → List Frame → ℕ → List Frame
placed_in None n v frames f = frames
placed_in (Some frame) n v frames f = slice_set frames f (record frame { slots = slice_set frame.slots n (unwritten v) })

abbrev pub with_placed : List SlotAt → List Frame → List Frame
with_placed [] frames = frames
with_placed (s ∷ slots) frames = with_placed slots (placed_in (slice_get frames s.frame) s.slot s.value frames s.frame)
