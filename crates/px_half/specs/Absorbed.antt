-- What an end takes in of a message.
use Rattle.std.specs.Prelude.{◌≡◌, ℕ, zero, suc, ◌+◌, ◌-◌, ◌==◌, nat_lt, nat_le, Bool, true, false, ◌&&◌, ◌||◌, List, [], ◌∷◌, ◌++◌, map, take, length, replicate, Option, Some, None, is_some, slice_get, option_map, option_and_then, Result, Ok, Err, if◌then◌else◌}
use Rattle.std.specs.List.{list_all}
use Rattle.px_value.specs.declared.value.Value.{Value}
use Rattle.px_value.specs.declared.value.Value.TheVariants.{Ref}
use Rattle.px_value.specs.declared.object.Object.{Object}
use Rattle.px_value.specs.declared.header.Header.{Header}
use Rattle.px_value.specs.declared.header.Kind.{Kind}
use Rattle.px_value.specs.declared.header.Kind.TheVariants as kind
use Rattle.px_value.specs.declared.ty.Ty.{Ty}
use Rattle.px_value.specs.declared.ty.Ty.TheVariants as ty
use Rattle.px_value.specs.Defaults.{default_of}
use Rattle.px_value.specs.Heap.{max_counted, max_elements, heap_counted, cell_at, written}
use Rattle.px_code.specs.declared.class.Class.{Class}
use Rattle.px_code.specs.declared.code.Code.{Code}
use Rattle.px_code.specs.declared.frame.Frame.{Frame}
use Rattle.px_code.specs.declared.frame.Slot.{Slot}
use Rattle.px_code.specs.declared.plan.Plan.{Plan}
use Rattle.px_code.specs.Slots.{all_settled}
use Rattle.px_code.specs.Machine.{Machine, slots_at, filled}
use Rattle.px_wire.specs.declared.frame.Frame.{Frame as FrameTold}
use Rattle.px_wire.specs.declared.slot.SlotAt.{SlotAt}
use Rattle.px_wire.specs.declared.cell.CellAt.{CellAt}
use Rattle.px_wire.specs.declared.updates.Updates.{Updates}
use Rattle.px_wire.specs.declared.transfer.Transfer.{Transfer as TransferTold}
use Rattle.px_wire.specs.declared.message.Message.{Message}
use Rattle.px_wire.specs.declared.message.Message.TheVariants.{Transfer, Commit}
use Rattle.px_wire.specs.Fitting.{HasSpelling, IsInRange}
use Rattle.px_wire.specs.Spelling.{spelling}
use Rattle.px_half.specs.declared.absorb.AbsorbError.{AbsorbError}
use Rattle.px_half.specs.declared.absorb.AbsorbError.TheVariants as bad
use Rattle.px_code.specs.Frames.{blank, types_of, root_slots}
use Rattle.px_half.specs.End.{End, plan_at, class_defaults}

-- ---- new objects

-- an element's type by its number: int, long, boolean, String, and then the classes
abbrev pub element_type : ℕ → Ty
element_type zero = ty.Int
element_type (suc zero) = ty.Long
element_type (suc (suc zero)) = ty.Bool
element_type (suc (suc (suc zero))) = ty.Text
element_type (suc (suc (suc (suc class)))) = ty.Ref

-- the cells of a new object, by its header
abbrev pub new_cells : Code → Kind → ℕ → List Value
new_cells code (kind.Object class) n = class_defaults code class
new_cells code (kind.Array element) n = replicate n (default_of (element_type element))
new_cells code (kind.Rows statement) n = []

abbrev pub new_object : Code → Header → Object
new_object code h = record { header = h; cells = new_cells code h.kind h.length }

-- Its kind is there, and its length is one of that kind. No code has a table operation yet, so there are no rows.
abbrev pub has_fields : Option Class → ℕ → Bool
has_fields None n = false
has_fields (Some class) n = length class.fields == n

abbrev pub class_fits : Code → ℕ → ℕ → Bool
class_fits code class n = has_fields (slice_get code.classes class) n

abbrev pub kind_fits : Code → Kind → ℕ → Bool
kind_fits code (kind.Object class) n = class_fits code class n
kind_fits code (kind.Array element) n = (nat_lt element 4 || nat_lt (element - 4) (length code.classes)) && nat_le n max_elements
kind_fits code (kind.Rows statement) n = false

abbrev pub header_fits : Code → List Object → Header → Bool
header_fits code heap h = kind_fits code h.kind h.length && nat_le h.site (length code.sites) && nat_le (heap_counted heap + (1 + h.length)) max_counted

-- the heap with new objects, if each of them fits
abbrev pub with_news : Code → List Header → List Object → Option (List Object)
with_news code [] heap = Some heap
with_news code (h ∷ hs) heap = if header_fits code heap h then with_news code hs (heap ++ new_object code h ∷ []) else None

-- whether all were added, and the heap if they were
abbrev pub Adds : Bool → Code → List Header → List Object → List Object → Type 0
Adds true code headers old new = with_news code headers old ≡ Some new
Adds false code headers old new = with_news code headers old ≡ None

-- ---- cells

-- a reference leads to an object
abbrev pub leads : List Object → Value → Bool
leads heap (Ref object) = nat_lt object (length heap)
leads heap _ = true

abbrev pub cell_fits : List Object → CellAt → Bool
cell_fits heap c = is_some (cell_at heap c.object c.index) && leads heap c.value

-- each cell is written; a message has each once
abbrev pub with_cells : List CellAt → List Object → List Object
with_cells [] heap = heap
with_cells (c ∷ cells) heap = with_cells cells (written heap c.object c.index c.value)

-- ---- the stack

abbrev pub frame_fits : Plan → FrameTold → Bool
frame_fits plan f = nat_le f.method (length plan.code.methods) && nat_le f.back (length plan.blocks.blocks)

-- the slots of the lowest frame, and of a method's
abbrev pub blank_slots : Plan → ℕ → List Slot
blank_slots plan zero = root_slots
blank_slots plan (suc m) = map (λ t. blank (default_of t)) (types_of (slice_get plan.code.methods m))

abbrev pub blank_frame : Plan → FrameTold → Frame
blank_frame plan f = record { method = f.method; back = f.back; slots = blank_slots plan f.method }

abbrev pub blank_count : Plan → Option FrameTold → ℕ
blank_count plan None = 0
blank_count plan (Some f) = length (blank_slots plan f.method)

-- how many slots a frame has, of those that stay and those that come
abbrev pub slot_count : Plan → TransferTold → List Frame → ℕ → ℕ
slot_count plan t frames f = if nat_lt f t.base then length (slots_at frames f) else blank_count plan (slice_get t.frames (f - t.base))

abbrev pub slot_fits : Plan → TransferTold → List Frame → List Object → SlotAt → Bool
slot_fits plan t frames heap s = nat_lt s.slot (slot_count plan t frames s.frame) && leads heap s.value

abbrev pub with_slots : List SlotAt → List Frame → List Frame
with_slots [] frames = frames
with_slots (s ∷ slots) frames = with_slots slots (filled frames s.frame s.slot s.value)

abbrev pub settled_frame : Frame → Frame
settled_frame f = record f { slots = all_settled f.slots }

-- the lowest frames stay, and those of the message stand on them
abbrev pub with_frames : Plan → TransferTold → List Frame → List Frame
with_frames plan t frames = map settled_frame (with_slots t.slots (take t.base frames ++ map (blank_frame plan) t.frames))

-- ---- what is there

abbrev pub stack_fits : Plan → TransferTold → List Frame → Bool
stack_fits plan t frames = nat_le t.block (length plan.blocks.blocks) && nat_le t.base (length frames) && list_all (frame_fits plan) t.frames

abbrev pub cells_fit : List CellAt → List Object → Bool
cells_fit cells heap = list_all (cell_fits heap) cells

abbrev pub slots_fit : Plan → TransferTold → List Frame → List Object → Bool
slots_fit plan t frames heap = list_all (slot_fits plan t frames heap) t.slots

-- the heap with the new objects, if they fit and each cell is there
abbrev pub if_cells_fit : List CellAt → List Object → Option (List Object)
if_cells_fit cells heap = if cells_fit cells heap then Some heap else None

abbrev pub with_room : Plan → Updates → List Object → Option (List Object)
with_room plan u heap = option_and_then (if_cells_fit u.cells) (with_news plan.code u.headers heap)

-- ---- the machine after a message, or None where it names what isn't there

abbrev pub with_updates : Plan → Updates → Machine → Option Machine
with_updates plan u m = option_map (λ heap. record m { heap = with_cells u.cells heap }) (with_room plan u m.heap)

-- control comes, and nothing is marked
abbrev pub in_control : Plan → TransferTold → Machine → List Object → Machine
in_control plan t m heap =
    let frames = with_frames plan t m.frames in
    record { heap = with_cells t.updates.cells heap; frames = frames; base = length frames; marks = []; named = [] }

-- the machine with these cells, slots and frames
abbrev pub taken_in : List CellAt → List SlotAt → List Frame → List Object → Machine
taken_in cells slots stack heap =
    let frames = map settled_frame (with_slots slots stack) in
    record { heap = with_cells cells heap; frames = frames; base = length frames; marks = []; named = [] }

abbrev pub transferred : Plan → TransferTold → Machine → List Object → Option Machine
transferred plan t m heap = if slots_fit plan t m.frames heap then Some (in_control plan t m heap) else None

abbrev pub with_transfer : Plan → TransferTold → Machine → Option Machine
with_transfer plan t m = if stack_fits plan t m.frames then option_and_then (transferred plan t m) (with_room plan t.updates m.heap) else None

-- the stack, the new objects, the cells and the slots of a transfer are there
pub record HasRoom (plan : Plan) (t : TransferTold) (m : Machine) (heap : List Object) : Type 0 where
  pub stack : stack_fits plan t m.frames ≡ true
  pub news : with_room plan t.updates m.heap ≡ Some heap
  pub slots : slots_fit plan t m.frames heap ≡ true

-- ---- the end after a message

abbrev pub after_commit : End → Machine → End
after_commit e m = record e { known = length m.heap; machine = m }

abbrev pub after_transfer : TransferTold → End → Machine → End
after_transfer t e m = record e { block = t.block; turns = t.turns; known = length m.heap; machine = m }

abbrev pub absorbed_by : Option Plan → Message → End → Option End
absorbed_by None message e = None
absorbed_by (Some plan) (Transfer t) e = option_map (after_transfer t e) (with_transfer plan t e.machine)
absorbed_by (Some plan) (Commit u) e = option_map (after_commit e) (with_updates plan u e.machine)

-- the end after a message, or None where the message names what isn't there
abbrev pub absorbed : Message → End → Option End
absorbed message e = absorbed_by (plan_at e) message e

-- ---- refusals

-- where a message is refused
abbrev pub IfBad : {A : Type 0} → Result A AbsorbError → Type 0 → Type 0
IfBad (Ok a) P = Unit {0}
IfBad (Err bad.BadMessage) P = P
IfBad (Err bad.NoMemory) P = Unit {0}

-- ---- bytes

-- the bytes are those of a message
pub record Spells (bytes : List ℕ) (message : Message) : Type 0 where
  pub in_range : IsInRange message
  pub has_spelling : HasSpelling message
  pub spelled : spelling message ≡ bytes

-- the bytes are a message that the end takes in
pub record IsAbsorbed (bytes : List ℕ) (old new : End) : Type 0 where
  pub message : Message
  pub spells : Spells bytes message
  pub is : absorbed message old ≡ Some new

-- whatever message the bytes are, the end doesn't take it in
abbrev pub IsRefused : List ℕ → End → Type 0
IsRefused bytes e = (message : Message) → Spells bytes message → absorbed message e ≡ None
