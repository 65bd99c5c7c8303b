-- What control carries to the other end, and what that end takes in.
use Rattle.std.specs.Prelude.{ℕ, zero, suc, ◌+◌, Bool, true, false, ◌&&◌, ◌||◌, List, [], ◌∷◌, ◌++◌, length, map, take, drop, Option, Some, None}
use Rattle.px_value.specs.declared.value.Value.{Value}
use Rattle.px_value.specs.declared.header.Header.{Header}
use Rattle.px_value.specs.declared.object.Object.{Object}
use Rattle.px_value.specs.Heap.{cell_at, written}
use Rattle.px_effects.specs.Act.{Place as Cell}
use Rattle.px_blocks.specs.declared.block.Naming.{Naming}
use Rattle.px_blocks.specs.Sides.{same, same_cell}
use Rattle.px_effects.specs.Act.{header_of, header_at, new_object, with_place_if}
use Rattle.px_blocks.specs.Plan.{Plan, firsts_of}
use Rattle.px_blocks.specs.Machine.{Slot, Frame, unwritten, blank_slots, filled, named, Control, Machine}

-- ---- the message

pub record FrameTold : Type 0 where
  pub method : ℕ
  pub back : ℕ

pub record SlotAt : Type 0 where
  pub frame : ℕ
  pub slot : ℕ
  pub value : Value

pub record CellAt : Type 0 where
  pub object : ℕ
  pub index : ℕ
  pub value : Value

pub record Updates : Type 0 where
  pub headers : List Header
  pub cells : List CellAt

pub record Transfer : Type 0 where
  pub block : ℕ
  pub turns : ℕ
  pub base : ℕ
  pub frames : List FrameTold
  pub slots : List SlotAt
  pub updates : Updates

abbrev pub frame_told : Frame → FrameTold
frame_told f = record { method = f.method; back = f.back }

abbrev pub slot_if : Bool → ℕ → ℕ → Value → List SlotAt → List SlotAt
slot_if true f n v rest = record { frame = f; slot = n; value = v } ∷ rest
slot_if false f n v rest = rest

-- the written slots of a frame, from a slot on
abbrev pub written_from : ℕ → ℕ → List Slot → List SlotAt
written_from f n [] = []
written_from f n (s ∷ slots) = slot_if s.written f n s.value (written_from f (n + 1) slots)

-- those of all frames, from a frame on
abbrev pub written_slots : ℕ → List Frame → List SlotAt
written_slots f [] = []
written_slots f (x ∷ frames) = written_from f 0 x.slots ++ written_slots (f + 1) frames

-- the cells that were written and named
abbrev pub carried : Plan → List Object → List Naming → List Cell → List Cell
carried plan heap ns [] = []
carried plan heap ns (c ∷ cs) = with_place_if (named plan (header_at heap c.object) ns c.object c.index) c (carried plan heap ns cs)

-- cells in order of object and index, each once
abbrev pub before : ℕ → ℕ → Bool
before m zero = false
before zero (suc n) = true
before (suc m) (suc n) = before m n

abbrev pub is_before : Cell → Cell → Bool
is_before c d = before c.object d.object || (same c.object d.object && before c.index d.index)

abbrev pub put_in_if : Bool → Bool → Cell → Cell → List Cell → List Cell → List Cell
put_in_if true first c d cs rest = d ∷ cs
put_in_if false true c d cs rest = c ∷ d ∷ cs
put_in_if false false c d cs rest = d ∷ rest

abbrev pub put_in : Cell → List Cell → List Cell
put_in c [] = c ∷ []
put_in c (d ∷ cs) = put_in_if (same_cell c.object c.index d.object d.index) (is_before c d) c d cs (put_in c cs)

abbrev pub in_order : List Cell → List Cell
in_order [] = []
in_order (c ∷ cs) = put_in c (in_order cs)

abbrev pub with_value : Option Value → Cell → List CellAt → List CellAt
with_value None c us = us
with_value (Some v) c us = record { object = c.object; index = c.index; value = v } ∷ us

-- cells with their values
abbrev pub valued : List Object → List Cell → List CellAt
valued heap [] = []
valued heap (c ∷ cs) = with_value (cell_at heap c.object c.index) c (valued heap cs)

abbrev pub updates : Plan → Control → List Object → Updates
updates plan c heap = record { headers = map header_of (drop c.known heap); cells = valued heap (in_order (carried plan heap c.named c.marks)) }

abbrev pub transfer : Plan → ℕ → Control → List Object → Transfer
transfer plan n c heap = record { block = n; turns = c.turns; base = c.base; frames = map frame_told (drop c.base c.frames); slots = written_slots 0 c.frames; updates = updates plan c heap }

-- ---- what the other end takes in

abbrev pub with_cells : List CellAt → List Object → List Object
with_cells [] heap = heap
with_cells (u ∷ us) heap = with_cells us (written heap u.object u.index u.value)

abbrev pub with_updates : Plan → Updates → List Object → List Object
with_updates plan u heap = with_cells u.cells (heap ++ map (new_object (firsts_of plan.code)) u.headers)

abbrev pub settled : Slot → Slot
settled s = unwritten s.value

abbrev pub settled_frame : Frame → Frame
settled_frame f = record f { slots = map settled f.slots }

abbrev pub all_settled : List Frame → List Frame
all_settled frames = map settled_frame frames

abbrev pub blank_frame : Plan → FrameTold → Frame
blank_frame plan f = record { method = f.method; back = f.back; slots = blank_slots plan.code f.method }

abbrev pub with_slots : List SlotAt → List Frame → List Frame
with_slots [] frames = frames
with_slots (s ∷ slots) frames = with_slots slots (filled frames s.frame s.slot s.value)

-- the lowest frames stay, and blank ones stand on them
abbrev pub standing : Plan → ℕ → List FrameTold → List Frame → List Frame
standing plan base told lower = take base lower ++ map (blank_frame plan) told

abbrev pub taken_frames : Plan → Transfer → List Frame → List Frame
taken_frames plan t frames = all_settled (with_slots t.slots (standing plan t.base t.frames frames))

-- control comes, all frames stand, and nothing is marked or named
abbrev pub in_control : List Frame → ℕ → ℕ → Control
in_control frames turns known = record { frames = frames; base = length frames; marks = []; named = []; known = known; turns = turns }

abbrev pub absorbed : Plan → Transfer → Machine → Machine
absorbed plan t m = let heap = with_updates plan t.updates m.heap in record m { heap = heap; control = in_control (taken_frames plan t m.control.frames) t.turns (length heap) }

-- the end that sent the message
abbrev pub emitted : Machine → Machine
emitted m = record m { control = record m.control { marks = []; named = []; known = length m.heap } }

-- the one machine as control goes over: its heap stays
abbrev pub handed : Machine → Machine
handed m = record m { control = in_control (all_settled m.control.frames) m.control.turns (length m.heap) }
