-- What an end tells has a spelling.
use Rattle.std.proofs.Common.{◌≡◌, ℕ, zero, suc, ◌+◌, ◌*◌, ◌^◌, ◌<◌, ◌≤◌, ◌⊎◌, inl, inr, Bool, true, false, List, [], ◌∷◌, ◌++◌, map, drop, length, Option, Some, slice_get, refl, sym, ap, subst, arith}
use Rattle.std.specs.Bool.{⊤}
use Rattle.std.proofs.lemmas.List.{length-append, length-map, length-drop}
use Rattle.std.specs.List.{AllByRecursion}
use Rattle.px_value.specs.declared.value.Value.{Value}
use Rattle.px_value.specs.declared.object.Object.{Object}
use Rattle.px_value.specs.Heap.{cell_at}
use Rattle.px_code.specs.declared.frame.Frame.{Frame}
use Rattle.px_code.specs.declared.frame.Slot.{Slot}
use Rattle.px_wire.specs.declared.slot.SlotAt.{SlotAt}
use Rattle.px_wire.specs.declared.cell.CellAt.{CellAt}
use Rattle.px_wire.specs.Order.{AreInOrder, slot_place}
use Rattle.px_value.specs.declared.header.Header.{Header}
use Rattle.px_code.specs.declared.plan.Plan.{Plan}
use Rattle.px_code.specs.Machine.{Machine}
use Rattle.px_wire.specs.declared.frame.Frame.{Frame as FrameTold}
use Rattle.px_wire.specs.declared.updates.Updates.{Updates}
use Rattle.px_wire.specs.declared.transfer.Transfer.{Transfer as TransferTold}
use Rattle.px_wire.specs.Fitting.{HasShortText, UpdatesHaveSpelling, TransferHasSpelling}
use Rattle.px_half.specs.End.{End}
use Rattle.px_half.specs.Messages.{slot_if, written_from, written_slots, IsTellableFrame, IsTellableHeap, IsTellable, AreUpdates, IsTransfer, frame_told, travels}

-- ---- the order of slots

-- in order, and none before a place
abbrev pub From : ℕ → ℕ → List SlotAt → Type 0
From f n [] = ⊤
From f n (s ∷ ss) = ((f < s.frame) ⊎ ((f ≡ s.frame) × (n ≤ s.slot))) × AreInOrder (map slot_place (s ∷ ss))

later : (f n : ℕ) (ss : List SlotAt) → From f (n + 1) ss → From f n ss
later f n [] h = tt
later f n (s ∷ ss) (inl a, h) = (inl a, h)
later f n (s ∷ ss) (inr a, h) = (inr (a.0, omega (arith, a.1)), h)

next_frame : (f n : ℕ) (ss : List SlotAt) → From (f + 1) 0 ss → From f n ss
next_frame f n [] h = tt
next_frame f n (s ∷ ss) (inl a, h) = (inl (omega (arith, a)), h)
next_frame f n (s ∷ ss) (inr a, h) = (inl (omega (arith, a.0)), h)

one_before : (f n : ℕ) (v : Value) (ss : List SlotAt) → From f (n + 1) ss → From f n (record { frame = f; slot = n; value = v } ∷ ss)
one_before f n v [] h = (inr (refl, omega arith), tt)
one_before f n v (s ∷ ss) (inl a, h) = (inr (refl, omega arith), (inl a, h))
one_before f n v (s ∷ ss) (inr a, h) = (inr (refl, omega arith), (inr (a.0, omega (arith, a.1)), h))

told_if : (b : Bool) (f n : ℕ) (v : Value) (ss : List SlotAt) → From f (n + 1) ss → From f n (slot_if b f n v ss)
told_if true f n v ss h = one_before f n v ss h
told_if false f n v ss h = later f n ss h

apart : (b : Bool) (f n : ℕ) (v : Value) (xs ys : List SlotAt) → slot_if b f n v xs ++ ys ≡ slot_if b f n v (xs ++ ys)
apart true f n v xs ys = refl
apart false f n v xs ys = refl

frame_in_order : (f n : ℕ) (slots : List Slot) (rest : List SlotAt) → From (f + 1) 0 rest → From f n (written_from f n slots ++ rest)
frame_in_order f n [] rest h = next_frame f n rest h
frame_in_order f n (s ∷ slots) rest h = subst (From f n) (sym (apart s.written f n s.value (written_from f (n + 1) slots) rest)) (told_if s.written f n s.value (written_from f (n + 1) slots ++ rest) (frame_in_order f (n + 1) slots rest h))

all_in_order : (f : ℕ) (frames : List Frame) → From f 0 (written_slots f frames)
all_in_order f [] = tt
all_in_order f (x ∷ frames) = frame_in_order f 0 x.slots (written_slots (f + 1) frames) (all_in_order (f + 1) frames)

in_order : (f n : ℕ) (ss : List SlotAt) → From f n ss → AreInOrder (map slot_place ss)
in_order f n [] h = tt
in_order f n (s ∷ ss) h = h.1

pub slots_in_order : (frames : List Frame) → AreInOrder (map slot_place (written_slots 0 frames))
slots_in_order frames = in_order 0 0 (written_slots 0 frames) (all_in_order 0 frames)

-- ---- how many slots

if_count : (b : Bool) (f n : ℕ) (v : Value) (ss : List SlotAt) → length (slot_if b f n v ss) ≤ length ss + 1
if_count true f n v ss = omega arith
if_count false f n v ss = omega arith

frame_count : (f n : ℕ) (slots : List Slot) → length (written_from f n slots) ≤ length slots
frame_count f n [] = omega arith
frame_count f n (s ∷ slots) = omega (arith, if_count s.written f n s.value (written_from f (n + 1) slots), frame_count f (n + 1) slots)

pub slots_count : (f : ℕ) (frames : List Frame) → AllByRecursion IsTellableFrame frames → length (written_slots f frames) ≤ length frames * 2 ^ 16
slots_count f [] h = omega arith
slots_count f (x ∷ frames) h = omega (arith, length-append (written_from f 0 x.slots) (written_slots (f + 1) frames), frame_count f 0 x.slots, h.0.slots, slots_count (f + 1) frames h.1)

-- ---- texts

abbrev IsShort : SlotAt → Type 0
IsShort s = HasShortText s.value

if_short : (b : Bool) (f n : ℕ) (v : Value) (ss : List SlotAt) → HasShortText v → AllByRecursion IsShort ss → AllByRecursion IsShort (slot_if b f n v ss)
if_short true f n v ss h k = (h, k)
if_short false f n v ss h k = k

frame_short : (f n : ℕ) (slots : List Slot) (rest : List SlotAt) → AllByRecursion (λ (s : Slot). HasShortText s.value) slots → AllByRecursion IsShort rest → AllByRecursion IsShort (written_from f n slots ++ rest)
frame_short f n [] rest h k = k
frame_short f n (s ∷ slots) rest h k = subst (AllByRecursion IsShort) (sym (apart s.written f n s.value (written_from f (n + 1) slots) rest)) (if_short s.written f n s.value (written_from f (n + 1) slots ++ rest) h.0 (frame_short f (n + 1) slots rest h.1 k))

pub slots_short : (f : ℕ) (frames : List Frame) → AllByRecursion IsTellableFrame frames → AllByRecursion (λ s. HasShortText s.value) (written_slots f frames)
slots_short f [] h = tt
slots_short f (x ∷ frames) h = frame_short f 0 x.slots (written_slots (f + 1) frames) h.0.texts (slots_short (f + 1) frames h.1)

-- a value of a list of short texts
value_short : (vs : List Value) (index : ℕ) (v : Value) → AllByRecursion HasShortText vs → slice_get vs index ≡ Some v → HasShortText v
value_short [] index v h e = cc
value_short (w ∷ vs) zero v h e = let f : w ≡ v = cc in subst HasShortText f h.0
value_short (w ∷ vs) (suc index) v h e = value_short vs index v h.1 e

abbrev pub AllShort : List Object → Type 0
AllShort heap = AllByRecursion (λ (o : Object). AllByRecursion HasShortText o.cells) heap

pub cell_short : (heap : List Object) (object index : ℕ) (v : Value) → AllShort heap → cell_at heap object index ≡ Some v → HasShortText v
cell_short [] object index v h e = cc
cell_short (o ∷ heap) zero index v h e = value_short o.cells index v h.0 e
cell_short (o ∷ heap) (suc object) index v h e = cell_short heap object index v h.1 e

pub cells_short : (heap : List Object) (P : CellAt → Type 0) (cells : List CellAt) → AllShort heap → AllByRecursion (λ (c : CellAt). P c × (cell_at heap c.object c.index ≡ Some c.value)) cells → AllByRecursion (λ c. HasShortText c.value) cells
cells_short heap P [] h k = tt
cells_short heap P (c ∷ cells) h k = (cell_short heap c.object c.index c.value h k.0.1, cells_short heap P cells h k.1)

-- ---- messages

pub updates_spelled : (plan : Option Plan) (known : ℕ) (m : Machine) (u : Updates) → AreUpdates plan known m u → IsTellableHeap m.heap → length m.heap < 2 ^ 32 → length u.cells < 2 ^ 32 → UpdatesHaveSpelling u
updates_spelled plan known m u are h few many = record {
  headers_counted = let e = ap (λ (hs : List Header). length hs) are.headers in omega (arith, e, length-map (drop known m.heap) (λ (o : Object). o.header), length-drop known m.heap, few);
  cells_counted = many;
  texts = cells_short m.heap (λ c. travels plan m c.object c.index ≡ true) u.cells h.texts are.cells.travel;
  in_order = are.cells.in_order;
}

pub transfer_spelled : (e : End) (t : TransferTold) → IsTransfer e t → IsTellable e.machine → UpdatesHaveSpelling t.updates → TransferHasSpelling t
transfer_spelled e t is h u = record {
  frames_counted = let k = ap (λ (fs : List FrameTold). length fs) is.frames in omega (arith, k, length-map (drop e.machine.base e.machine.frames) frame_told, length-drop e.machine.base e.machine.frames, h.few);
  slots_counted = let k = ap (λ (ss : List SlotAt). length ss) is.slots in omega (arith, k, slots_count 0 e.machine.frames h.frames, h.few);
  texts = subst (AllByRecursion (λ (s : SlotAt). HasShortText s.value)) (sym is.slots) (slots_short 0 e.machine.frames h.frames);
  in_order = subst (λ (ss : List SlotAt). AreInOrder (map slot_place ss)) (sym is.slots) (slots_in_order e.machine.frames);
  updates = u;
}
