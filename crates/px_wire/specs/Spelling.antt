-- The bytes of a message, and of each of its parts.
use Rattle.std.specs.Prelude.{ℕ, Bool, true, false, List, [], ◌∷◌, ◌++◌, length}
use Rattle.std.specs.List.{flat_map}
use Rattle.std.specs.Int.{w32, w64, cast_unsigned}
use Rattle.px_value.specs.declared.value.Value.{Value}
use Rattle.px_value.specs.declared.value.Value.TheVariants.{Null, Int, Long, Bool as Truth, Text, Ref}
use Rattle.px_value.specs.declared.header.Header.{Header}
use Rattle.px_value.specs.declared.header.Kind.{Kind}
use Rattle.px_value.specs.declared.header.Kind.TheVariants.{Object, Array, Rows}
use Rattle.px_wire.specs.declared.frame.Frame.{Frame}
use Rattle.px_wire.specs.declared.slot.SlotAt.{SlotAt}
use Rattle.px_wire.specs.declared.cell.CellAt.{CellAt}
use Rattle.px_wire.specs.declared.updates.Updates.{Updates}
use Rattle.px_wire.specs.declared.transfer.Transfer.{Transfer as TransferData}
use Rattle.px_wire.specs.declared.message.Message.{Message}
use Rattle.px_wire.specs.declared.message.Message.TheVariants.{Transfer, Commit}
use Rattle.px_wire.specs.Numbers.{u16_bytes, u32_bytes, u64_bytes}

abbrev pub text_bytes : List ℕ → List ℕ
text_bytes text = u16_bytes (length text) ++ text

abbrev pub truth_byte : Bool → ℕ
truth_byte false = 0
truth_byte true = 1

abbrev pub value_bytes : Value → List ℕ
value_bytes Null = 0 ∷ []
value_bytes (Int n) = 1 ∷ u32_bytes (cast_unsigned w32 n)
value_bytes (Long n) = 2 ∷ u64_bytes (cast_unsigned w64 n)
value_bytes (Truth b) = 3 ∷ truth_byte b ∷ []
value_bytes (Text text) = 4 ∷ text_bytes text
value_bytes (Ref place) = 5 ∷ u32_bytes place

abbrev pub kind_bytes : Kind → List ℕ
kind_bytes (Object class) = 0 ∷ u16_bytes class
kind_bytes (Array element) = 1 ∷ u16_bytes element
kind_bytes (Rows statement) = 2 ∷ u16_bytes statement

abbrev pub header_bytes : Header → List ℕ
header_bytes h = kind_bytes h.kind ++ u16_bytes h.site ++ u32_bytes h.length

abbrev pub frame_bytes : Frame → List ℕ
frame_bytes f = u16_bytes f.method ++ u32_bytes f.back

abbrev pub slot_bytes : SlotAt → List ℕ
slot_bytes s = u16_bytes s.frame ++ u16_bytes s.slot ++ value_bytes s.value

abbrev pub cell_bytes : CellAt → List ℕ
cell_bytes c = u32_bytes c.object ++ u32_bytes c.index ++ value_bytes c.value

-- a count of four bytes, and each item
abbrev pub counted_bytes : {A : Type 0} → (A → List ℕ) → List A → List ℕ
counted_bytes item_bytes items = u32_bytes (length items) ++ flat_map item_bytes items

abbrev pub updates_bytes : Updates → List ℕ
updates_bytes u = counted_bytes header_bytes u.headers ++ counted_bytes cell_bytes u.cells

-- there are at most 255 frames, so their count is one byte
abbrev pub frames_bytes : List Frame → List ℕ
frames_bytes frames = length frames ∷ flat_map frame_bytes frames

abbrev pub transfer_bytes : TransferData → List ℕ
transfer_bytes t = u32_bytes t.block ++ u32_bytes t.turns ++ (t.base ∷ frames_bytes t.frames) ++ counted_bytes slot_bytes t.slots ++ updates_bytes t.updates

abbrev pub spelling : Message → List ℕ
spelling (Transfer t) = 1 ∷ transfer_bytes t
spelling (Commit u) = 4 ∷ updates_bytes u
