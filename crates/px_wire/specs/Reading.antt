-- Reading from left to right. A part is read as a value and the bytes behind it.
use Rattle.std.specs.Prelude.{◌≡◌, ℕ, zero, suc, Bool, true, false, List, [], ◌∷◌, length, map, take, drop, Option, Some, None, Result, Ok, Err, nat_lt, ◌==◌, if◌then◌else◌}
use Rattle.std.specs.List.{list_all}
use Rattle.std.specs.Char.{is_ascii}
use Rattle.std.specs.Int.{Width, w16, w32, w64, byte_len, from_be_bytes, cast_signed}
use Rattle.px_value.specs.declared.value.Value.{Value}
use Rattle.px_value.specs.declared.value.Value.TheVariants.{Null, Int, Long, Bool as Truth, Text, Ref}
use Rattle.px_value.specs.declared.header.Header.{Header}
use Rattle.px_value.specs.declared.header.Kind.{Kind}
use Rattle.px_value.specs.declared.header.Kind.TheVariants.{Object, Array, Rows}
use Rattle.px_wire.specs.declared.unread.Unread.{Unread}
use Rattle.px_wire.specs.declared.unread.Unread.TheVariants.{NoMessage, NoMemory}
use Rattle.px_wire.specs.declared.frame.Frame.{Frame}
use Rattle.px_wire.specs.declared.slot.SlotAt.{SlotAt}
use Rattle.px_wire.specs.declared.cell.CellAt.{CellAt}
use Rattle.px_wire.specs.declared.updates.Updates.{Updates}
use Rattle.px_wire.specs.declared.transfer.Transfer.{Transfer as TransferData}
use Rattle.px_wire.specs.declared.message.Message.{Message}
use Rattle.px_wire.specs.declared.message.Message.TheVariants.{Transfer, Commit}
use Rattle.px_wire.specs.Order.{are_in_order, slot_place, cell_place}
use Rattle.px_wire.specs.Fitting.{max_text}

infixl 10 ◌>>=◌
abbrev pub ◌>>=◌ : {A B : Type 0} → Option A → (A → Option B) → Option B
(Some x) >>= f = f x
None >>= f = None

-- What a function returned, seen by view, is what reading gives, unless memory ran out.
abbrev pub Fails : {Y : Type 0} → Unread → Option Y → Type 0
Fails NoMemory read = Unit {0}
Fails NoMessage read = read ≡ None

abbrev pub Gives : {X Y : Type 0} → (X → Y) → Result X Unread → Option Y → Type 0
Gives view (Ok x) read = read ≡ Some (view x)
Gives view (Err e) read = Fails e read

-- ---- numbers

abbrev pub u8_at : List ℕ → Option (ℕ × List ℕ)
u8_at [] = None
u8_at (byte ∷ rest) = Some (byte, rest)

abbrev pub number_at : Width → List ℕ → Option (ℕ × List ℕ)
number_at w bytes = if nat_lt (length bytes) (byte_len w) then None else Some (from_be_bytes w (take (byte_len w) bytes), drop (byte_len w) bytes)

unfoldable pub u16_at : List ℕ → Option (ℕ × List ℕ)
u16_at bytes = number_at w16 bytes

unfoldable pub u32_at : List ℕ → Option (ℕ × List ℕ)
u32_at bytes = number_at w32 bytes

unfoldable pub u64_at : List ℕ → Option (ℕ × List ℕ)
u64_at bytes = number_at w64 bytes

-- ---- values

abbrev pub is_text : List ℕ → Bool
is_text text = list_all is_ascii text

-- the text of a length
abbrev pub text_of : ℕ → List ℕ → Option (List ℕ × List ℕ)
text_of n bytes =
    if nat_lt max_text n then None
    else if nat_lt (length bytes) n then None
    else if is_text (take n bytes) then Some (take n bytes, drop n bytes)
    else None

unfoldable pub text_at : List ℕ → Option (List ℕ × List ℕ)
text_at bytes = do
  n ← u16_at bytes
  text_of n.0 n.1

abbrev pub truth_of : ℕ → Option Bool
truth_of byte = if byte == 0 then Some false else if byte == 1 then Some true else None

unfoldable pub int_at : List ℕ → Option (Value × List ℕ)
int_at bytes = do
  n ← u32_at bytes
  Some (Int (cast_signed w32 n.0), n.1)

unfoldable pub long_at : List ℕ → Option (Value × List ℕ)
long_at bytes = do
  n ← u64_at bytes
  Some (Long (cast_signed w64 n.0), n.1)

unfoldable pub truth_at : List ℕ → Option (Value × List ℕ)
truth_at bytes = do
  byte ← u8_at bytes
  truth ← truth_of byte.0
  Some (Truth truth, byte.1)

unfoldable pub text_value_at : List ℕ → Option (Value × List ℕ)
text_value_at bytes = do
  text ← text_at bytes
  Some (Text text.0, text.1)

unfoldable pub ref_at : List ℕ → Option (Value × List ℕ)
ref_at bytes = do
  n ← u32_at bytes
  Some (Ref n.0, n.1)

-- the value behind a tag
abbrev pub tagged_at : ℕ → List ℕ → Option (Value × List ℕ)
tagged_at tag bytes =
    if tag == 0 then Some (Null, bytes)
    else if tag == 1 then int_at bytes
    else if tag == 2 then long_at bytes
    else if tag == 3 then truth_at bytes
    else if tag == 4 then text_value_at bytes
    else if tag == 5 then ref_at bytes
    else None

unfoldable pub value_at : List ℕ → Option (Value × List ℕ)
value_at bytes = do
  tag ← u8_at bytes
  tagged_at tag.0 tag.1

-- ---- parts

abbrev pub kind_of : ℕ → ℕ → Option Kind
kind_of tag n =
    if tag == 0 then Some (Object n)
    else if tag == 1 then Some (Array n)
    else if tag == 2 then Some (Rows n)
    else None

unfoldable pub kind_at : List ℕ → Option (Kind × List ℕ)
kind_at bytes = do
  tag ← u8_at bytes
  n ← u16_at tag.1
  kind ← kind_of tag.0 n.0
  Some (kind, n.1)

unfoldable pub header_at : List ℕ → Option (Header × List ℕ)
header_at bytes = do
  kind ← kind_at bytes
  site ← u16_at kind.1
  count ← u32_at site.1
  Some (record { kind = kind.0; site = site.0; length = count.0 }, count.1)

unfoldable pub frame_at : List ℕ → Option (Frame × List ℕ)
frame_at bytes = do
  method ← u16_at bytes
  back ← u32_at method.1
  Some (record { method = method.0; back = back.0 }, back.1)

unfoldable pub slot_at : List ℕ → Option (SlotAt × List ℕ)
slot_at bytes = do
  frame ← u16_at bytes
  slot ← u16_at frame.1
  value ← value_at slot.1
  Some (record { frame = frame.0; slot = slot.0; value = value.0 }, value.1)

unfoldable pub cell_at : List ℕ → Option (CellAt × List ℕ)
cell_at bytes = do
  object ← u32_at bytes
  index ← u32_at object.1
  value ← value_at index.1
  Some (record { object = object.0; index = index.0; value = value.0 }, value.1)

-- so many items, one behind the other
unfoldable pub items_at : {A : Type 0} → (List ℕ → Option (A × List ℕ)) → ℕ → List ℕ → Option (List A × List ℕ)
items_at item_at zero bytes = Some ([], bytes)
items_at item_at (suc n) bytes = do
  first ← item_at bytes
  more ← items_at item_at n first.1
  Some (first.0 ∷ more.0, more.1)

unfoldable pub counted_at : {A : Type 0} → (List ℕ → Option (A × List ℕ)) → List ℕ → Option (List A × List ℕ)
counted_at item_at bytes = do
  count ← u32_at bytes
  items_at item_at count.0 count.1

-- items in order of their places
unfoldable pub ordered_at : {A : Type 0} → (A → ℕ × ℕ) → (List ℕ → Option (A × List ℕ)) → List ℕ → Option (List A × List ℕ)
ordered_at place item_at bytes = do
  items ← counted_at item_at bytes
  if are_in_order (map place items.0) then Some items else None

unfoldable pub frames_at : List ℕ → Option (List Frame × List ℕ)
frames_at bytes = do
  count ← u8_at bytes
  items_at frame_at count.0 count.1

unfoldable pub updates_at : List ℕ → Option (Updates × List ℕ)
updates_at bytes = do
  headers ← counted_at header_at bytes
  cells ← ordered_at cell_place cell_at headers.1
  Some (record { headers = headers.0; cells = cells.0 }, cells.1)

unfoldable pub transfer_at : List ℕ → Option (TransferData × List ℕ)
transfer_at bytes = do
  block ← u32_at bytes
  turns ← u32_at block.1
  base ← u8_at turns.1
  frames ← frames_at base.1
  slots ← ordered_at slot_place slot_at frames.1
  updates ← updates_at slots.1
  Some (record { block = block.0; turns = turns.0; base = base.0; frames = frames.0; slots = slots.0; updates = updates.0 }, updates.1)

-- ---- messages

unfoldable pub transfer_message_at : List ℕ → Option (Message × List ℕ)
transfer_message_at bytes = do
  transfer ← transfer_at bytes
  Some (Transfer transfer.0, transfer.1)

unfoldable pub commit_at : List ℕ → Option (Message × List ℕ)
commit_at bytes = do
  updates ← updates_at bytes
  Some (Commit updates.0, updates.1)

-- the message behind its first byte
abbrev pub message_behind : ℕ → List ℕ → Option (Message × List ℕ)
message_behind first bytes =
    if first == 1 then transfer_message_at bytes
    else if first == 4 then commit_at bytes
    else None

unfoldable pub message_at : List ℕ → Option (Message × List ℕ)
message_at bytes = do
  first ← u8_at bytes
  message_behind first.0 first.1

-- the message that all of the bytes spell
unfoldable pub message_of : List ℕ → Option Message
message_of bytes = do
  message ← message_at bytes
  if length message.1 == 0 then Some message.0 else None
