-- What the messages of an end carry.
use Rattle.std.specs.Prelude.{◌≡◌, ℕ, zero, ◌+◌, ◌==◌, Bool, true, false, ◌&&◌, ◌||◌, List, [], ◌∷◌, ◌++◌, map, drop, length, ◌≤◌, ◌^◌, Option, Some, None, slice_get, Contains}
use Rattle.std.specs.List.{AllByRecursion}
use Rattle.px_value.specs.declared.value.Value.{Value}
use Rattle.px_value.specs.declared.object.Object.{Object}
use Rattle.px_value.specs.declared.header.Header.{Header}
use Rattle.px_value.specs.Heap.{cell_at, header_of}
use Rattle.px_code.specs.declared.side.Side.{Side}
use Rattle.px_code.specs.declared.side.Side.TheVariants.{App}
use Rattle.px_code.specs.declared.cell.Cell.{Cell}
use Rattle.px_code.specs.declared.block.Naming.{Naming}
use Rattle.px_code.specs.declared.frame.Frame.{Frame}
use Rattle.px_code.specs.declared.frame.Slot.{Slot}
use Rattle.px_code.specs.declared.plan.Plan.{Plan}
use Rattle.px_wire.specs.declared.frame.Frame.{Frame as FrameTold}
use Rattle.px_wire.specs.declared.slot.SlotAt.{SlotAt}
use Rattle.px_wire.specs.declared.cell.CellAt.{CellAt}
use Rattle.px_wire.specs.declared.updates.Updates.{Updates}
use Rattle.px_wire.specs.declared.transfer.Transfer.{Transfer as TransferTold}
use Rattle.px_wire.specs.declared.message.Message.{Message}
use Rattle.px_wire.specs.declared.message.Message.TheVariants.{Transfer, Commit}
use Rattle.px_wire.specs.Order.{AreInOrder, cell_place}
use Rattle.px_wire.specs.Fitting.{HasShortText, HasSpelling, IsInRange}
use Rattle.px_wire.specs.Spelling.{spelling}
use Rattle.px_code.specs.Places.{same_side, home_in}
use Rattle.px_code.specs.Machine.{Machine}
use Rattle.px_half.specs.End.{End, plan_at}

-- ---- homes

-- the home of a cell, by the header of its object
abbrev pub home : Option Plan → Option Header → ℕ → Side
home None h index = App
home (Some plan) h index = home_in plan.code plan.placement.sides h index

-- ---- what was written and named

abbrev pub is_marked : List Cell → ℕ → ℕ → Bool
is_marked [] object index = false
is_marked (c ∷ marks) object index = ((c.object == object) && (c.index == index)) || is_marked marks object index

-- a send at a side names the cells of its object that are homed there
abbrev pub is_named : List Naming → Side → ℕ → Bool
is_named [] side object = false
is_named (n ∷ named) side object = ((n.object == object) && same_side n.home side) || is_named named side object

abbrev pub header_at : List Object → ℕ → Option Header
header_at heap object = header_of (slice_get heap object)

-- a cell travels if it was written since control came and named by a send since then, in either order
abbrev pub travels : Option Plan → Machine → ℕ → ℕ → Bool
travels plan m object index = is_marked m.marks object index && is_named m.named (home plan (header_at m.heap object) index) object

-- these are the cells that travel, in order, with the values that they have
pub record AreCarried (plan : Option Plan) (m : Machine) (cells : List CellAt) : Type 0 where
  pub in_order : AreInOrder (map cell_place cells)
  pub travel : AllByRecursion (λ c. (travels plan m c.object c.index ≡ true) × (cell_at m.heap c.object c.index ≡ Some c.value)) cells
  pub all : (object index : ℕ) (v : Value) → travels plan m object index ≡ true → cell_at m.heap object index ≡ Some v → Contains cells (record { object = object; index = index; value = v })

pub record AreUpdates (plan : Option Plan) (known : ℕ) (m : Machine) (u : Updates) : Type 0 where
  pub headers : u.headers ≡ map (λ (o : Object). o.header) (drop known m.heap)
  pub cells : AreCarried plan m u.cells

-- ---- the stack

abbrev pub frame_told : Frame → FrameTold
frame_told f = record { method = f.method; back = f.back }

abbrev pub slot_if : Bool → ℕ → ℕ → Value → List SlotAt → List SlotAt
slot_if true f n v rest = record { frame = f; slot = n; value = v } ∷ rest
slot_if false f n v rest = rest

-- the written slots of a frame, from a slot on
abbrev pub written_from : ℕ → ℕ → List Slot → List SlotAt
written_from f n [] = []
written_from f n (s ∷ slots) = slot_if s.written f n s.value (written_from f (n + 1) slots)

-- those of all frames, from a frame on
abbrev pub written_slots : ℕ → List Frame → List SlotAt
written_slots f [] = []
written_slots f (x ∷ frames) = written_from f 0 x.slots ++ written_slots (f + 1) frames

pub record IsTransfer (e : End) (t : TransferTold) : Type 0 where
  pub block : t.block ≡ e.block
  pub turns : t.turns ≡ e.turns
  pub base : t.base ≡ e.machine.base
  pub frames : t.frames ≡ map frame_told (drop e.machine.base e.machine.frames)
  pub slots : t.slots ≡ written_slots 0 e.machine.frames
  pub updates : AreUpdates (plan_at e) e.known e.machine t.updates

-- ---- messages

-- at APP, block 0 ends the call
abbrev pub IsMessage : Side → ℕ → End → Message → Type 0
IsMessage App zero e (Commit u) = AreUpdates (plan_at e) e.known e.machine u
IsMessage App zero e (Transfer t) = ⊥
IsMessage side block e (Transfer t) = IsTransfer e t
IsMessage side block e _ = ⊥

-- the bytes are those of a message of this end
pub record IsEmitted (e : End) (bytes : List ℕ) : Type 0 where
  pub message : Message
  pub is : IsMessage e.side e.block e message
  pub in_range : IsInRange message
  pub has_spelling : HasSpelling message
  pub spelled : spelling message ≡ bytes

abbrev pub told : End → End
told e = record e { known = length e.machine.heap; machine = record e.machine { marks = []; named = [] } }

-- ---- what a message can tell

pub record IsTellableFrame (f : Frame) : Type 0 where
  pub slots : length f.slots ≤ 2 ^ 16
  pub texts : AllByRecursion (λ (s : Slot). HasShortText s.value) f.slots

pub record IsTellableHeap (heap : List Object) : Type 0 where
  pub texts : AllByRecursion (λ (o : Object). AllByRecursion HasShortText o.cells) heap

-- The stack has at most 255 frames, and texts are short.
pub record IsTellable (m : Machine) : Type 0 where
  pub few : length m.frames ≤ 255
  pub base : m.base ≤ length m.frames
  pub frames : AllByRecursion IsTellableFrame m.frames
  pub heap : IsTellableHeap m.heap
