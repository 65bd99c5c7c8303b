-- Which messages have a spelling, and which numbers a message can hold.
use Rattle.std.specs.Prelude.{ℕ, ◌<◌, ◌≤◌, ◌^◌, ⊤, List, length, map}
use Rattle.std.specs.List.{AllByRecursion}
use Rattle.std.specs.Int.{w32, w64}
use Rattle.std.specs.Int.RustNames.{FitsSigned}
use Rattle.px_value.specs.declared.value.Value.{Value}
use Rattle.px_value.specs.declared.value.Value.TheVariants.{Int, Long, Text, Ref}
use Rattle.px_value.specs.declared.header.Header.{Header}
use Rattle.px_value.specs.declared.header.Kind.{Kind}
use Rattle.px_value.specs.declared.header.Kind.TheVariants.{Object, Array, Rows}
use Rattle.px_wire.specs.declared.frame.Frame.{Frame}
use Rattle.px_wire.specs.declared.slot.SlotAt.{SlotAt}
use Rattle.px_wire.specs.declared.cell.CellAt.{CellAt}
use Rattle.px_wire.specs.declared.updates.Updates.{Updates}
use Rattle.px_wire.specs.declared.transfer.Transfer.{Transfer as TransferData}
use Rattle.px_wire.specs.declared.message.Message.{Message}
use Rattle.px_wire.specs.declared.message.Message.TheVariants.{Transfer, Commit}
use Rattle.px_wire.specs.Order.{AreInOrder, slot_place, cell_place}
pub use Rattle.px_value.specs.Limits.{max_text}

-- ---- what has a spelling

pub record IsShortAscii (text : List ℕ) : Type 0 where
  pub short : length text ≤ max_text
  pub ascii : AllByRecursion (λ byte. byte < 128) text

abbrev pub HasShortText : Value → Type 0
HasShortText (Text text) = IsShortAscii text
HasShortText _ = ⊤

pub record UpdatesHaveSpelling (u : Updates) : Type 0 where
  pub headers_counted : length u.headers < 2 ^ 32
  pub cells_counted : length u.cells < 2 ^ 32
  pub texts : AllByRecursion (λ c. HasShortText c.value) u.cells
  pub in_order : AreInOrder (map cell_place u.cells)

pub record TransferHasSpelling (t : TransferData) : Type 0 where
  pub frames_counted : length t.frames < 2 ^ 8
  pub slots_counted : length t.slots < 2 ^ 32
  pub texts : AllByRecursion (λ s. HasShortText s.value) t.slots
  pub in_order : AreInOrder (map slot_place t.slots)
  pub updates : UpdatesHaveSpelling t.updates

abbrev pub HasSpelling : Message → Type 0
HasSpelling (Transfer t) = TransferHasSpelling t
HasSpelling (Commit u) = UpdatesHaveSpelling u

-- ---- which numbers a message can hold: each within the range of its type

abbrev pub ValueIsInRange : Value → Type 0
ValueIsInRange (Int n) = FitsSigned w32 n
ValueIsInRange (Long n) = FitsSigned w64 n
ValueIsInRange (Ref place) = place < 2 ^ 32
ValueIsInRange _ = ⊤

abbrev pub KindIsInRange : Kind → Type 0
KindIsInRange (Object class) = class < 2 ^ 16
KindIsInRange (Array element) = element < 2 ^ 16
KindIsInRange (Rows statement) = statement < 2 ^ 16

pub record HeaderIsInRange (h : Header) : Type 0 where
  pub kind : KindIsInRange h.kind
  pub site : h.site < 2 ^ 16
  pub count : h.length < 2 ^ 32

pub record FrameIsInRange (f : Frame) : Type 0 where
  pub method : f.method < 2 ^ 16
  pub back : f.back < 2 ^ 32

pub record SlotIsInRange (s : SlotAt) : Type 0 where
  pub frame : s.frame < 2 ^ 16
  pub slot : s.slot < 2 ^ 16
  pub value : ValueIsInRange s.value

pub record CellIsInRange (c : CellAt) : Type 0 where
  pub object : c.object < 2 ^ 32
  pub index : c.index < 2 ^ 32
  pub value : ValueIsInRange c.value

pub record UpdatesAreInRange (u : Updates) : Type 0 where
  pub headers : AllByRecursion HeaderIsInRange u.headers
  pub cells : AllByRecursion CellIsInRange u.cells

pub record TransferIsInRange (t : TransferData) : Type 0 where
  pub block : t.block < 2 ^ 32
  pub turns : t.turns < 2 ^ 32
  pub base : t.base < 2 ^ 8
  pub frames : AllByRecursion FrameIsInRange t.frames
  pub slots : AllByRecursion SlotIsInRange t.slots
  pub updates : UpdatesAreInRange t.updates

abbrev pub IsInRange : Message → Type 0
IsInRange (Transfer t) = TransferIsInRange t
IsInRange (Commit u) = UpdatesAreInRange u
