-- Parts are read as they are spelled.
use Rattle.std.proofs.Common.{◌≡◌, ℕ, ◌<◌, ◌^◌, ◌==◌, cond, List, ◌∷◌, ◌++◌, length, map, Option, Some, None, inl, inr, refl, sym, ap, subst, ◌∙◌, append_assoc}
use Rattle.std.specs.List.{AllByRecursion}
use Rattle.std.proofs.lemmas.Bool.{eqb-true}
use Rattle.px_value.specs.declared.value.Value.{Value}
use Rattle.px_value.specs.declared.header.Header.{Header}
use Rattle.px_value.specs.declared.header.Kind.{Kind}
use Rattle.px_value.specs.declared.header.Kind.TheVariants.{Object, Array, Rows}
use Rattle.px_wire.specs.declared.frame.Frame.{Frame}
use Rattle.px_wire.specs.declared.slot.SlotAt.{SlotAt}
use Rattle.px_wire.specs.declared.cell.CellAt.{CellAt}
use Rattle.px_wire.specs.Numbers.{u16_bytes}
use Rattle.px_wire.specs.Spelling.{kind_bytes, header_bytes, frame_bytes, slot_bytes, cell_bytes, counted_bytes, frames_bytes}
use Rattle.px_wire.specs.Order.{AreInOrder, slot_place, cell_place}
use Rattle.px_wire.specs.Fitting.{HasShortText, KindIsInRange, HeaderIsInRange, FrameIsInRange, SlotIsInRange, CellIsInRange}
use Rattle.px_wire.specs.Reading.{◌>>=◌, u8_at, u16_at, kind_of, kind_at, header_at, frame_at, slot_at, cell_at, ordered_at, frames_at}
use Rattle.px_wire.proofs.Readers.{IsBytes, Taken, Reads, bind_some, some_is, chosen, guard_some, then_goes, last_goes, reads_of}
use Rattle.px_wire.proofs.NumbersRead.{u8_reads, u16_reads, u32_reads}
use Rattle.px_wire.proofs.ValuesRead.{value_reads}
use Rattle.px_wire.proofs.ListsRead.{ordered_reads, short_reads}

-- ---- frames

abbrev frame_of : ℕ → ℕ → Frame
frame_of method back = record { method = method; back = back }

pub frame_reads : Reads FrameIsInRange frame_bytes frame_at
unfolding frame_at
frame_reads =
    reads_of FrameIsInRange frame_bytes
    (then_goes (λ f. f.method) _ u16_reads (λ method.
    last_goes (λ f. f.back) (frame_of method) u32_reads (λ back. (tt, refl)) (λ back. refl) (λ f known. ap (λ m. frame_of m f.back) (sym known.1))))
    (λ f. refl)
    (λ f h. record { method = h.0; back = h.1 }) (λ f h. (h.method, h.back))

pub frames_reads : Reads (λ frames. (length frames < 2 ^ 8) × AllByRecursion FrameIsInRange frames) frames_bytes frames_at
unfolding frames_at
frames_reads = short_reads frame_reads

-- ---- headers

kind_of-some : (tag n : ℕ) (kind : Kind) → n < 2 ^ 16 → kind_of tag n ≡ Some kind → (tag ∷ u16_bytes n ≡ kind_bytes kind) × KindIsInRange kind
kind_of-some tag n kind lt e =
    let rows : Option Kind = cond (tag == 2) (Some (Rows n)) None in
    let others : Option Kind = cond (tag == 1) (Some (Array n)) rows in
    let P : Kind → Type 0 = λ k. (tag ∷ u16_bytes n ≡ kind_bytes k) × KindIsInRange k in
    elim (chosen (tag == 0) (Some (Object n)) others (Some kind) e) [
      | inl h ↦ subst P (some_is (Object n) kind h.1) (ap (λ t. t ∷ u16_bytes n) (eqb-true tag 0 h.0), lt)
      | inr h ↦ elim (chosen (tag == 1) (Some (Array n)) rows (Some kind) h.1) [
        | inl k ↦ subst P (some_is (Array n) kind k.1) (ap (λ t. t ∷ u16_bytes n) (eqb-true tag 1 k.0), lt)
        | inr k ↦
            let g = guard_some (tag == 2) (Rows n) kind k.1 in
            subst P g.1 (ap (λ t. t ∷ u16_bytes n) (eqb-true tag 2 g.0), lt)
      ]
    ]

kind-again : (kind : Kind) (rest : List ℕ) → KindIsInRange kind → kind_at (kind_bytes kind ++ rest) ≡ Some (kind, rest)
unfolding kind_at
kind-again (Object class) rest fits = ap (λ o. o >>= λ n. Some (Object n.0, n.1)) (u16_reads.again class rest fits)
kind-again (Array element) rest fits = ap (λ o. o >>= λ n. Some (Array n.0, n.1)) (u16_reads.again element rest fits)
kind-again (Rows statement) rest fits = ap (λ o. o >>= λ n. Some (Rows n.0, n.1)) (u16_reads.again statement rest fits)

kind-taken : (bytes : List ℕ) (x : Kind × List ℕ) → IsBytes bytes → kind_at bytes ≡ Some x → Taken KindIsInRange kind_bytes bytes x
unfolding kind_at
kind-taken bytes x fits e =
    let a = bind_some (u8_at bytes) (λ tag. u16_at tag.1 >>= λ n. kind_of tag.0 n.0 >>= λ kind. Some (kind, n.1)) x e in
    let b = bind_some (u16_at a.0.1) (λ n. kind_of a.0.0 n.0 >>= λ kind. Some (kind, n.1)) x a.2 in
    let c = bind_some (kind_of a.0.0 b.0.0) (λ kind. Some (kind, b.0.1)) x b.2 in
    let p = u8_reads.taken bytes a.0 fits a.1 in
    let q = u16_reads.taken a.0.1 b.0 p.rest b.1 in
    let k = kind_of-some a.0.0 b.0.0 c.0 q.fits c.1 in
    let made : Kind × List ℕ = (c.0, b.0.1) in
    let parts : bytes ≡ kind_bytes c.0 ++ b.0.1 = p.parts ∙ ap (λ y. a.0.0 ∷ y) q.parts ∙ ap (λ y. y ++ b.0.1) k.0 in
    subst (λ (y : Kind × List ℕ). Taken KindIsInRange kind_bytes bytes y) (some_is made x c.2) (record { parts = parts; rest = q.rest; fits = k.1 })

kind_reads : Reads KindIsInRange kind_bytes kind_at
kind_reads = record { again = kind-again; taken = kind-taken }

abbrev header_of : Kind → ℕ → ℕ → Header
header_of kind site count = record { kind = kind; site = site; length = count }

pub header_reads : Reads HeaderIsInRange header_bytes header_at
unfolding header_at
header_reads =
    reads_of HeaderIsInRange header_bytes
    (then_goes (λ h. h.kind) _ kind_reads (λ kind.
    then_goes (λ h. h.site) _ u16_reads (λ site.
    last_goes (λ h. h.length) (header_of kind site) u32_reads (λ count. ((tt, refl), refl)) (λ count. refl)
    (λ h known. ap (λ k. header_of k site h.length) (sym known.0.1) ∙ ap (λ n. header_of h.kind n h.length) (sym known.1)))))
    (λ h. simp append_assoc)
    (λ h f. record { kind = f.0; site = f.1.0; count = f.1.1 }) (λ h f. (f.kind, (f.site, f.count)))

-- ---- slots

abbrev pub SlotFits : SlotAt → Type 0
SlotFits s = SlotIsInRange s × HasShortText s.value

abbrev slot_of : ℕ → ℕ → Value → SlotAt
slot_of frame slot value = record { frame = frame; slot = slot; value = value }

slot_reads : Reads SlotFits slot_bytes slot_at
unfolding slot_at
slot_reads =
    reads_of SlotFits slot_bytes
    (then_goes (λ s. s.frame) _ u16_reads (λ frame.
    then_goes (λ s. s.slot) _ u16_reads (λ slot.
    last_goes (λ s. s.value) (slot_of frame slot) value_reads (λ value. ((tt, refl), refl)) (λ value. refl)
    (λ s known. ap (λ n. slot_of n slot s.value) (sym known.0.1) ∙ ap (λ n. slot_of s.frame n s.value) (sym known.1)))))
    (λ s. simp append_assoc)
    (λ s f. (record { frame = f.0; slot = f.1.0; value = f.1.1.0 }, f.1.1.1)) (λ s f. (f.0.frame, (f.0.slot, (f.0.value, f.1))))

pub slots_reads : Reads (λ slots. ((length slots < 2 ^ 32) × AllByRecursion SlotFits slots) × AreInOrder (map slot_place slots)) (counted_bytes slot_bytes) (ordered_at slot_place slot_at)
slots_reads = ordered_reads slot_place slot_reads

-- ---- cells

abbrev pub CellFits : CellAt → Type 0
CellFits c = CellIsInRange c × HasShortText c.value

abbrev cell_of : ℕ → ℕ → Value → CellAt
cell_of object index value = record { object = object; index = index; value = value }

cell_reads : Reads CellFits cell_bytes cell_at
unfolding cell_at
cell_reads =
    reads_of CellFits cell_bytes
    (then_goes (λ c. c.object) _ u32_reads (λ object.
    then_goes (λ c. c.index) _ u32_reads (λ index.
    last_goes (λ c. c.value) (cell_of object index) value_reads (λ value. ((tt, refl), refl)) (λ value. refl)
    (λ c known. ap (λ n. cell_of n index c.value) (sym known.0.1) ∙ ap (λ n. cell_of c.object n c.value) (sym known.1)))))
    (λ c. simp append_assoc)
    (λ c f. (record { object = f.0; index = f.1.0; value = f.1.1.0 }, f.1.1.1)) (λ c f. (f.0.object, (f.0.index, (f.0.value, f.1))))

pub cells_reads : Reads (λ cells. ((length cells < 2 ^ 32) × AllByRecursion CellFits cells) × AreInOrder (map cell_place cells)) (counted_bytes cell_bytes) (ordered_at cell_place cell_at)
cells_reads = ordered_reads cell_place cell_reads
