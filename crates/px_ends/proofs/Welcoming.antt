-- A message of an end names only what is there at the other.
use Rattle.std.proofs.Common.{◌≡◌, ℕ, zero, suc, ◌+◌, ◌≤◌, Bool, true, false, cond, List, [], ◌∷◌, ◌++◌, map, take, drop, length, Option, Some, None, is_some, unwrap_or, slice_get, refl, sym, ap, ◌∙◌, subst, arith}
use Rattle.std.specs.List.{AllByRecursion}
use Rattle.std.proofs.lemmas.List.{drop-map}
use Rattle.px_value.specs.declared.value.Value.{Value}
use Rattle.px_value.specs.declared.value.Value.TheVariants.{Null}
use Rattle.px_value.specs.declared.header.Header.{Header}
use Rattle.px_value.specs.declared.object.Object.{Object}
use Rattle.px_value.specs.Heap.{cell_at, heap_counted, max_counted}
use Rattle.px_blocks.specs.declared.side.Side.{Side}
use Rattle.px_effects.specs.Act.{Place as Cell, header_of, header_at, new_object}
use Rattle.px_blocks.specs.Plan.{Plan, firsts_of, first_at}
use Rattle.px_blocks.specs.Machine.{Slot, Frame, slots_at, Control, Machine}
use Rattle.px_blocks.specs.Message.{FrameTold, frame_told, SlotAt, CellAt, standing, slot_if, written_from, written_slots, with_value, valued, carried, in_order, Transfer, transfer}
use Rattle.px_ends.specs.Agree.{headers, lacks_of, Heaps, SlotsLike, FramesLike, bare, Stacks}
use Rattle.px_ends.specs.Welcome.{LeadsIn, CellsLead, SlotsLead, FramesLead, IsWelcome, MessagesAreWelcome}
use Rattle.px_ends.proofs.Places.{header_is, length_headers, same_length, headers_join, headers_new, take_then_drop, cell_news}
use Rattle.px_ends.proofs.HeapSteps.{new_lengths}
use Rattle.px_ends.proofs.Acts.{same_counted}
use Rattle.px_ends.proofs.Crossing.{transfer_alike}

-- ---- the parts of a message

module _ (P : CellAt → Type 0) where
  value_all : (v : Option Value) (c : Cell) (us : List CellAt) → ((w : Value) → v ≡ Some w → P (record { object = c.object; index = c.index; value = w })) → AllByRecursion P us → AllByRecursion P (with_value v c us)
  value_all None c us f all = all
  value_all (Some w) c us f all = (f w refl, all)

  valued_all : (heap : List Object) (cs : List Cell) → ((o i : ℕ) (w : Value) → cell_at heap o i ≡ Some w → P (record { object = o; index = i; value = w })) → AllByRecursion P (valued heap cs)
  valued_all heap [] f = tt
  valued_all heap (c ∷ cs) f = value_all (cell_at heap c.object c.index) c (valued heap cs) (f c.object c.index) (valued_all heap cs f)

all_append : {A : Type 0} (P : A → Type 0) (xs ys : List A) → AllByRecursion P xs → AllByRecursion P ys → AllByRecursion P (xs ++ ys)
all_append P [] ys all more = more
all_append P (x ∷ xs) ys all more = (all.0, all_append P xs ys all.1 more)

module _ (P : SlotAt → Type 0) where
  if_all : (b : Bool) (f n : ℕ) (v : Value) (rest : List SlotAt) → P (record { frame = f; slot = n; value = v }) → AllByRecursion P rest → AllByRecursion P (slot_if b f n v rest)
  if_all true f n v rest p all = (p, all)
  if_all false f n v rest p all = all

  from_all : (slots : List Slot) (f n : ℕ) → ((k i : ℕ) (s : Slot) → i ≡ n + k → slice_get slots k ≡ Some s → P (record { frame = f; slot = i; value = s.value })) → AllByRecursion P (written_from f n slots)
  from_all [] f n g = tt
  from_all (s ∷ slots) f n g = if_all s.written f n s.value (written_from f (n + 1) slots) (g zero n s (omega arith) refl) (from_all slots f (n + 1) (λ k i t q e. g (suc k) i t (omega (arith, q)) e))

  frames_all : (frames : List Frame) (f : ℕ) → ((j i k : ℕ) (s : Slot) → i ≡ f + j → slice_get (slots_at frames j) k ≡ Some s → P (record { frame = i; slot = k; value = s.value })) → AllByRecursion P (written_slots f frames)
  frames_all [] f g = tt
  frames_all (x ∷ frames) f g =
      all_append P (written_from f 0 x.slots) (written_slots (f + 1) frames)
      (from_all x.slots f 0 (λ k i s q e. subst (λ z. P (record { frame = f; slot = z; value = s.value })) (back k i q) (g zero f k s (omega arith) e)))
      (frames_all frames (f + 1) (λ j i k s q e. g (suc j) i k s (omega (arith, q)) e))
    where
      back : (k i : ℕ) → i ≡ 0 + k → k ≡ i
      back k i q = omega (arith, q)

  written_all : (frames : List Frame) → ((j k : ℕ) (s : Slot) → slice_get (slots_at frames j) k ≡ Some s → P (record { frame = j; slot = k; value = s.value })) → AllByRecursion P (written_slots 0 frames)
  written_all frames g = frames_all frames 0 (λ j i k s q e. subst (λ z. P (record { frame = z; slot = k; value = s.value })) (back j i q) (g j k s e))
    where
      back : (k i : ℕ) → i ≡ 0 + k → k ≡ i
      back k i q = omega (arith, q)

-- ---- slots

slot_there : (slots others : List Slot) (k : ℕ) (s : Slot) → SlotsLike slots others → slice_get slots k ≡ Some s → is_some (slice_get others k) ≡ true
slot_there [] others k s like e = cc
slot_there (x ∷ slots) [] k s like e = absurd like
slot_there (x ∷ slots) (y ∷ others) zero s like e = refl
slot_there (x ∷ slots) (y ∷ others) (suc k) s like e = slot_there slots others k s like.1 e

frame_there : (frames others : List Frame) (f k : ℕ) (s : Slot) → FramesLike frames others → slice_get (slots_at frames f) k ≡ Some s → is_some (slice_get (slots_at others f) k) ≡ true
frame_there [] others f k s like e = cc
frame_there (x ∷ frames) [] f k s like e = absurd like
frame_there (x ∷ frames) (y ∷ others) zero k s like e = let l = like.0 in slot_there x.slots y.slots k s l.slots e
frame_there (x ∷ frames) (y ∷ others) (suc f) k s like e = frame_there frames others f k s like.1 e

slot_leads : (n : ℕ) (slots : List Slot) (k : ℕ) (s : Slot) → SlotsLead n slots → slice_get slots k ≡ Some s → LeadsIn n s.value
slot_leads n [] k s all e = cc
slot_leads n (x ∷ slots) zero s all e = subst (λ (z : Slot). LeadsIn n z.value) (same x s e) all.0
  where
    same : (x s : Slot) → Some x ≡ Some s → x ≡ s
    same x s e = cc
slot_leads n (x ∷ slots) (suc k) s all e = slot_leads n slots k s all.1 e

frame_leads : (n : ℕ) (frames : List Frame) (f k : ℕ) (s : Slot) → FramesLead n frames → slice_get (slots_at frames f) k ≡ Some s → LeadsIn n s.value
frame_leads n [] f k s all e = cc
frame_leads n (x ∷ frames) zero k s all e = slot_leads n x.slots k s all.0 e
frame_leads n (x ∷ frames) (suc f) k s all e = frame_leads n frames f k s all.1 e

-- ---- the heap that takes the cells in

module _ (plan : Plan) (side : Side) (known : ℕ) (marks : List Cell) (near far one : List Object) (h : Heaps plan side known marks near far one) where
  abbrev taking : List Object
  taking = far ++ map (new_object (firsts_of plan.code)) (map header_of (drop known one))

  taking_headers : headers taking ≡ headers one
  taking_headers =
      headers_join far (map (new_object (firsts_of plan.code)) (map header_of (drop known one)))
      ∙ (λ k. h.far_headers k ++ headers (map (new_object (firsts_of plan.code)) (sym (drop-map header_of known one) k)))
      ∙ ap (λ (l : List Header). take known (headers one) ++ l) (headers_new (firsts_of plan.code) (drop known (headers one)) (new_lengths plan side known marks near far one h))
      ∙ take_then_drop known (headers one)

  taking_there : (o i : ℕ) → is_some (cell_at taking o i) ≡ is_some (cell_at one o i)
  taking_there o i =
      let q = h.holds o i in
      ap (λ (l : List Header). is_some (cell_at (far ++ map (new_object (firsts_of plan.code)) l) o i)) (sym (drop-map header_of known one))
      ∙ ap is_some (cell_news plan far known (headers one) o i h.far_headers (let l = length_headers one in let m = h.known_in in omega arith))
      ∙ (λ k. is_some (cond (lacks_of (header_at far o) (sym (header_is one o) k)) (first_at plan (sym (header_is one o) k) i) (cell_at far o i)))
      ∙ pick (lacks_of (header_at far o) (header_at one o)) (first_at plan (header_at one o) i) (cell_at far o i) (cell_at one o i) q.far_there q.first_there
    where
      pick : (l : Bool) (first far one : Option Value) → (l ≡ false → is_some far ≡ is_some one) → (l ≡ true → is_some first ≡ is_some one) → is_some (cond l first far) ≡ is_some one
      pick true first far one a b = b refl
      pick false first far one a b = a refl

-- ---- the message

welcome : (plan : Plan) (side : Side) (n : ℕ) (far : Machine) (near one : List Object) (c : Control) → Heaps plan side c.known c.marks near far.heap one → Stacks plan c far.control.frames → CellsLead one → FramesLead (length one) c.frames → heap_counted one ≤ max_counted → IsWelcome plan (transfer plan n c one) far
welcome plan side n far near one c h st cells frames room =
    let all = taking_headers plan side c.known c.marks near far.heap one h in
    let long : length (taking plan side c.known c.marks near far.heap one h) ≡ length one = same_length (taking plan side c.known c.marks near far.heap one h) one all in
    record {
      base = st.reached;
      slots = written_all (λ (s : SlotAt). is_some (slice_get (slots_at (standing plan c.base (map frame_told (drop c.base c.frames)) far.control.frames) s.frame) s.slot) ≡ true) c.frames there;
      room = subst (λ n. n ≤ max_counted) (sym (same_counted (taking plan side c.known c.marks near far.heap one h) one all)) room;
      cells = valued_all (λ (u : CellAt). is_some (cell_at (taking plan side c.known c.marks near far.heap one h) u.object u.index) ≡ true) one (in_order (carried plan one c.named c.marks)) (λ o i w e. taking_there plan side c.known c.marks near far.heap one h o i ∙ ap is_some e);
      slots_lead = subst (λ k. AllByRecursion (λ (s : SlotAt). LeadsIn k s.value) (written_slots 0 c.frames)) (sym long) (written_all (λ (s : SlotAt). LeadsIn (length one) s.value) c.frames (λ j k s e. frame_leads (length one) c.frames j k s frames e));
      cells_lead = subst (λ k. AllByRecursion (λ (u : CellAt). LeadsIn k u.value) (valued one (in_order (carried plan one c.named c.marks)))) (sym long) (valued_all (λ (u : CellAt). LeadsIn (length one) u.value) one (in_order (carried plan one c.named c.marks)) (λ o i w e. subst (LeadsIn (length one)) (ap (λ (z : Option Value). unwrap_or z Null) e) (cells o i)));
    }
  where
    there : (j k : ℕ) (s : Slot) → slice_get (slots_at c.frames j) k ≡ Some s → is_some (slice_get (slots_at (standing plan c.base (map frame_told (drop c.base c.frames)) far.control.frames) j) k) ≡ true
    there j k s e = ap (λ (hs : List FrameTold). is_some (slice_get (slots_at (standing plan c.base hs far.control.frames) j) k)) (sym (drop-map frame_told c.base c.frames)) ∙ frame_there c.frames (bare plan c far.control.frames) j k s st.like e

pub messages_are_welcome : MessagesAreWelcome
messages_are_welcome plan side n near far one g sure =
    let split = g.split in
    subst (λ (t : Transfer). IsWelcome plan t far) (sym (transfer_alike plan side n near far one g))
    (welcome plan side n far near.heap one.heap one.control split.heaps split.stacks sure.cells sure.frames sure.room)
