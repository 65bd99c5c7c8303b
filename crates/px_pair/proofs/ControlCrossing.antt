-- Control goes over whole: the other end takes the message in, and both have one heap and one stack again.
use Rattle.std.proofs.Common.{◌≡◌, ℕ, zero, suc, ◌+◌, Bool, true, false, ◌&&◌, List, [], ◌∷◌, ◌++◌, map, take, drop, length, Some, None, nat_lt, nat_le, refl, sym, ap, subst, ◌∙◌, append-nil, arith, le-leb, if◌then◌else◌}
use Rattle.std.specs.List.{AllByRecursion, list_all}
use Rattle.std.specs.Option.{option_and_then}
use Rattle.px_value.specs.declared.value.Value.{Value}
use Rattle.px_value.specs.declared.value.Value.TheVariants as v
use Rattle.px_value.specs.declared.object.Object.{Object}
use Rattle.px_code.specs.declared.side.Side.{Side}
use Rattle.px_code.specs.declared.frame.Frame.{Frame}
use Rattle.px_code.specs.declared.frame.Slot.{Slot}
use Rattle.px_code.specs.declared.plan.Plan.{Plan}
use Rattle.px_code.specs.Places.{other}
use Rattle.px_code.specs.Fits.{Fits, header_at}
use Rattle.px_code.specs.Machine.{Machine}
use Rattle.px_wire.specs.declared.frame.Frame.{Frame as FrameTold}
use Rattle.px_wire.specs.declared.slot.SlotAt.{SlotAt}
use Rattle.px_wire.specs.declared.transfer.Transfer.{Transfer}
use Rattle.px_half.specs.Messages.{frame_told, slot_if, written_from, written_slots}
use Rattle.px_half.specs.Absorbed.{leads, frame_fits, stack_fits, slot_count, slot_fits, slots_fit, with_room, with_transfer, transferred, in_control, blank_frame, with_slots, settled_frame}
use Rattle.px_pair.specs.Agree.{Seen, seen, Agree}
use Rattle.px_pair.specs.Crossing.{SlotsLike, FramesLike, bare, quiet, SlotsLead, CanTell, Tells, HeapCrossed, ControlCrosses}
use Rattle.px_pair.proofs.HeapCrossing as heaps
use Rattle.px_pair.proofs.StackCrossing as stacks
use Rattle.px_pair.proofs.StackRoom as room

-- ---- heaps of the same headers

pub same_length : (xs ys : List Object) → ((o : ℕ) → header_at xs o ≡ header_at ys o) → length xs ≡ length ys
same_length [] [] h = refl
same_length [] (y ∷ ys) h = let e = h 0 in cc
same_length (x ∷ xs) [] h = let e = h 0 in cc
same_length (x ∷ xs) (y ∷ ys) h = ap suc (same_length xs ys (λ o. h (suc o)))

leads_same : (xs ys : List Object) (x : Value) → length xs ≡ length ys → leads xs x ≡ leads ys x
leads_same xs ys (v.Int n) e = refl
leads_same xs ys (v.Long n) e = refl
leads_same xs ys (v.Bool b) e = refl
leads_same xs ys (v.Text t) e = refl
leads_same xs ys v.Null e = refl
leads_same xs ys (v.Ref o) e = ap (nat_lt o) e

-- ---- stacks that are seen alike

value : Slot → Value
value s = s.value

slots_alike : (ss ts : List Slot) → map (λ (s : Slot). s.value) ss ≡ map (λ (s : Slot). s.value) ts → SlotsLike ss ts
slots_alike [] [] e = tt
slots_alike [] (t ∷ ts) e = cc
slots_alike (s ∷ ss) [] e = cc
slots_alike (s ∷ ss) (t ∷ ts) e =
    let head : s.value ≡ t.value = cc in
    let tail : map (λ (s : Slot). s.value) ss ≡ map (λ (s : Slot). s.value) ts = cc in
    ((λ _. head), slots_alike ss ts tail)

frames_alike : (xs ys : List Frame) → map seen xs ≡ map seen ys → FramesLike xs ys
frames_alike [] [] e = tt
frames_alike [] (y ∷ ys) e = cc
frames_alike (x ∷ xs) [] e = cc
frames_alike (x ∷ xs) (y ∷ ys) e =
    let head : seen x ≡ seen y = cc in
    let tail : map seen xs ≡ map seen ys = cc in
    (record { method = ap (λ (s : Seen). s.method) head; back = ap (λ (s : Seen). s.back) head; slots = slots_alike x.slots y.slots (ap (λ (s : Seen). s.values) head) }, frames_alike xs ys tail)

pub seen_length : (xs ys : List Frame) → map seen xs ≡ map seen ys → length xs ≡ length ys
seen_length [] [] e = refl
seen_length [] (y ∷ ys) e = cc
seen_length (x ∷ xs) [] e = cc
seen_length (x ∷ xs) (y ∷ ys) e = let tail : map seen xs ≡ map seen ys = cc in ap suc (seen_length xs ys tail)

take_all : {A : Type 0} (xs : List A) (n : ℕ) → n ≡ length xs → take n xs ≡ xs
take_all [] n e = ap (λ k. take k []) e
take_all {A = A} (x ∷ xs) n e = ap (λ k. take k (x ∷ xs)) e ∙ ap (λ (zs : List A). x ∷ zs) (take_all xs (length xs) refl)

drop_all : {A : Type 0} (xs : List A) → drop (length xs) xs ≡ []
drop_all [] = refl
drop_all (x ∷ xs) = drop_all xs

-- ---- references of slots

if_lead : (heap : List Object) (b : Bool) (f n : ℕ) (x : Value) (ss : List SlotAt) → leads heap x ≡ true → AllByRecursion (λ (s : SlotAt). leads heap s.value ≡ true) ss → AllByRecursion (λ (s : SlotAt). leads heap s.value ≡ true) (slot_if b f n x ss)
if_lead heap true f n x ss h k = (h, k)
if_lead heap false f n x ss h k = k

apart : (b : Bool) (f n : ℕ) (x : Value) (xs ys : List SlotAt) → slot_if b f n x xs ++ ys ≡ slot_if b f n x (xs ++ ys)
apart true f n x xs ys = refl
apart false f n x xs ys = refl

frame_lead : (heap : List Object) (f n : ℕ) (slots : List Slot) (rest : List SlotAt) → AllByRecursion (λ (s : Slot). leads heap s.value ≡ true) slots → AllByRecursion (λ (s : SlotAt). leads heap s.value ≡ true) rest → AllByRecursion (λ (s : SlotAt). leads heap s.value ≡ true) (written_from f n slots ++ rest)
frame_lead heap f n [] rest h k = k
frame_lead heap f n (s ∷ slots) rest h k =
    subst (AllByRecursion (λ (s : SlotAt). leads heap s.value ≡ true)) (sym (apart s.written f n s.value (written_from f (n + 1) slots) rest))
    (if_lead heap s.written f n s.value (written_from f (n + 1) slots ++ rest) h.0 (frame_lead heap f (n + 1) slots rest h.1 k))

slots_lead : (heap : List Object) (f : ℕ) (frames : List Frame) → SlotsLead heap frames → AllByRecursion (λ (s : SlotAt). leads heap s.value ≡ true) (written_slots f frames)
slots_lead heap f [] h = tt
slots_lead heap f (x ∷ frames) h = frame_lead heap f 0 x.slots (written_slots (f + 1) frames) h.0 (slots_lead heap (f + 1) frames h.1)

both : (a b : Bool) → a ≡ true → b ≡ true → (a && b) ≡ true
both true b h k = k
both false b h k = cc

first_of : (a b : Bool) → (a && b) ≡ true → a ≡ true
first_of true b h = refl
first_of false b h = cc

second_of : (a b : Bool) → (a && b) ≡ true → b ≡ true
second_of true b h = h
second_of false b h = cc

all_both : {A : Type 0} (p q : A → Bool) (xs : List A) → list_all p xs ≡ true → AllByRecursion (λ x. q x ≡ true) xs → list_all (λ x. p x && q x) xs ≡ true
all_both p q [] h k = refl
all_both p q (x ∷ xs) h k = both (p x && q x) (list_all (λ y. p y && q y) xs) (both (p x) (q x) (first_of (p x) (list_all p xs) h) k.0) (all_both p q xs (second_of (p x) (list_all p xs) h) k.1)

all_true : {A : Type 0} (p : A → Bool) (xs : List A) → AllByRecursion (λ x. p x ≡ true) xs → list_all p xs ≡ true
all_true p [] h = refl
all_true p (x ∷ xs) h = both (p x) (list_all p xs) h.0 (all_true p xs h.1)

-- what holds of each frame's head holds of the heads from a frame on
heads_from : (P : FrameTold → Type 0) (n : ℕ) (frames : List Frame) → AllByRecursion (λ (f : Frame). P (frame_told f)) frames → AllByRecursion P (map frame_told (drop n frames))
heads_from P zero [] h = tt
heads_from P zero (x ∷ frames) h = (h.0, heads_from P zero frames h.1)
heads_from P (suc n) [] h = tt
heads_from P (suc n) (x ∷ frames) h = heads_from P n frames h.1

-- ---- what goes by what is seen

fit_seen : (plan : Plan) (xs ys : List Frame) → map seen xs ≡ map seen ys → AllByRecursion (λ (f : Frame). frame_fits plan (frame_told f) ≡ true) ys → AllByRecursion (λ (f : Frame). frame_fits plan (frame_told f) ≡ true) xs
fit_seen plan [] ys e h = tt
fit_seen plan (x ∷ xs) [] e h = cc
fit_seen plan (x ∷ xs) (y ∷ ys) e h =
    let head : seen x ≡ seen y = cc in
    let tail : map seen xs ≡ map seen ys = cc in
    (ap (λ (s : Seen). frame_fits plan (record { method = s.method; back = s.back })) head ∙ h.0, fit_seen plan xs ys tail h.1)

values_lead : (old new : List Object) (ss ts : List Slot) → length new ≡ length old → map (λ (s : Slot). s.value) ss ≡ map (λ (s : Slot). s.value) ts → AllByRecursion (λ (s : Slot). leads old s.value ≡ true) ts → AllByRecursion (λ (s : Slot). leads new s.value ≡ true) ss
values_lead old new [] ts n e h = tt
values_lead old new (s ∷ ss) [] n e h = cc
values_lead old new (s ∷ ss) (t ∷ ts) n e h =
    let head : s.value ≡ t.value = cc in
    let tail : map (λ (s : Slot). s.value) ss ≡ map (λ (s : Slot). s.value) ts = cc in
    (ap (leads new) head ∙ leads_same new old t.value n ∙ h.0, values_lead old new ss ts n tail h.1)

pub lead_seen : (old new : List Object) (xs ys : List Frame) → length new ≡ length old → map seen xs ≡ map seen ys → SlotsLead old ys → SlotsLead new xs
lead_seen old new [] ys n e h = tt
lead_seen old new (x ∷ xs) [] n e h = cc
lead_seen old new (x ∷ xs) (y ∷ ys) n e h =
    let head : seen x ≡ seen y = cc in
    let tail : map seen xs ≡ map seen ys = cc in
    (values_lead old new x.slots y.slots n (ap (λ (s : Seen). s.values) head) h.0, lead_seen old new xs ys n tail h.1)

-- ---- the whole

-- what stands of the end that takes the message in, by the stacks alone
module _ (plan : Plan) (side : Side) (near far one : Machine) (t : Transfer) (agree : Agree plan side near far one) (fits : Fits plan.code one.heap) (like : FramesLike near.frames (bare plan near far)) (tells : Tells plan near t) where
  crossed : HeapCrossed plan side near far one t.updates
  crossed = heaps.heap_crosses plan side near far one t.updates agree fits tells.updates

  abbrev pub new : Machine
  new = in_control plan t far far.heap

  pub same_stack : map seen new.frames ≡ map seen near.frames
  same_stack =
      ap (λ (ss : List SlotAt). map seen (map settled_frame (with_slots ss (take t.base far.frames ++ map (blank_frame plan) t.frames)))) tells.slots
      ∙ ap (λ (n : ℕ). map seen (map settled_frame (with_slots (written_slots 0 near.frames) (take n far.frames ++ map (blank_frame plan) t.frames)))) tells.base
      ∙ ap (λ (fs : List FrameTold). map seen (map settled_frame (with_slots (written_slots 0 near.frames) (take near.base far.frames ++ map (blank_frame plan) fs)))) tells.frames
      ∙ stacks.stack_crosses plan near far like

  pub new_length : length new.frames ≡ length near.frames
  new_length = seen_length new.frames near.frames same_stack

  bare_is : bare plan new near ≡ near.frames
  bare_is = ap (λ (fs : List Frame). fs ++ map (blank_frame plan) (map frame_told (drop new.base new.frames))) (take_all near.frames new.base new_length)
      ∙ ap (λ (fs : List Frame). near.frames ++ map (blank_frame plan) (map frame_told fs)) (drop_all new.frames) ∙ append-nil near.frames

  pub new_like : FramesLike new.frames (bare plan new (quiet near))
  new_like = subst (FramesLike new.frames) (sym bare_is) (frames_alike new.frames near.frames same_stack)

  pub new_agree : Agree plan (other side) new (quiet near) one
  new_agree = record {
    frames = same_stack ∙ agree.frames;
    near_headers = crossed.headers;
    far_headers = agree.near_headers;
    copies = λ o i. let c = crossed.copies o i in record { near_there = c.near_there; far_there = c.far_there; kept = c.kept; written = c.written; far_kept = c.far_kept };
    named = λ o i h kept. cc;
  }

  after_room : (b : Bool) (x : Machine) → (if b then Some new else None) ≡ Some x → x ≡ new
  after_room true x h = cc
  after_room false x h = cc

  after_stack : (b : Bool) (x : Machine) → (if b then option_and_then (transferred plan t far) (with_room plan t.updates far.heap) else None) ≡ Some x → x ≡ new
  after_stack true x h = after_room (slots_fit plan t far.frames far.heap) x (sym (ap (option_and_then (transferred plan t far)) crossed.room) ∙ h)
  after_stack false x h = cc

  -- whatever machine the message leaves is this one
  pub taken_is : (x : Machine) → with_transfer plan t far ≡ Some x → x ≡ new
  taken_is x h = after_stack (stack_fits plan t far.frames) x h

-- and where the stack can be told, the message is taken in
module _ (plan : Plan) (side : Side) (near far one : Machine) (t : Transfer) (agree : Agree plan side near far one) (fits : Fits plan.code one.heap) (can : CanTell plan near far) (tells : Tells plan near t) where
  heaps_long : length near.heap ≡ length far.heap
  heaps_long = same_length near.heap far.heap (λ o. agree.near_headers o ∙ sym (agree.far_headers o))

  stack_there : stack_fits plan t far.frames ≡ true
  stack_there = both (nat_le t.block (length plan.blocks.blocks) && nat_le t.base (length far.frames)) (list_all (frame_fits plan) t.frames)
      (both (nat_le t.block (length plan.blocks.blocks)) (nat_le t.base (length far.frames)) tells.block (ap (λ n. nat_le n (length far.frames)) tells.base ∙ le-leb near.base (length far.frames) can.base))
      (ap (list_all (frame_fits plan)) tells.frames ∙ all_true (frame_fits plan) (map frame_told (drop near.base near.frames)) (heads_from (λ f. frame_fits plan f ≡ true) near.base near.frames can.frames))

  lead_far : (x : Value) → leads near.heap x ≡ true → leads far.heap x ≡ true
  lead_far x h = sym (leads_same near.heap far.heap x heaps_long) ∙ h

  all_lead : (ss : List SlotAt) → AllByRecursion (λ (s : SlotAt). leads near.heap s.value ≡ true) ss → AllByRecursion (λ (s : SlotAt). leads far.heap s.value ≡ true) ss
  all_lead [] h = tt
  all_lead (s ∷ ss) h = (lead_far s.value h.0, all_lead ss h.1)

  slots_there : slots_fit plan t far.frames far.heap ≡ true
  slots_there = ap (list_all (slot_fits plan t far.frames far.heap)) tells.slots
      ∙ all_both (λ (s : SlotAt). nat_lt s.slot (slot_count plan t far.frames s.frame)) (λ (s : SlotAt). leads far.heap s.value) (written_slots 0 near.frames)
      (room.slots_are_there plan near far t tells.base tells.frames can.like) (all_lead (written_slots 0 near.frames) (slots_lead near.heap 0 near.frames can.lead))

  abbrev there : Machine
  there = in_control plan t far far.heap

  taken : with_transfer plan t far ≡ Some there
  taken =
      ap (λ b. if b then option_and_then (transferred plan t far) (with_room plan t.updates far.heap) else None) stack_there
      ∙ ap (option_and_then (transferred plan t far)) (crossed plan side near far one t agree fits can.like tells).room
      ∙ ap (λ b. if b then Some there else None) slots_there

  stack : map seen there.frames ≡ map seen near.frames
  stack = same_stack plan side near far one t agree fits can.like tells

  new_can : CanTell plan there (quiet near)
  new_can = record {
    like = new_like plan side near far one t agree fits can.like tells;
    base = omega (arith, seen_length there.frames near.frames stack);
    frames = fit_seen plan there.frames near.frames stack can.frames;
    lead = lead_seen near.heap there.heap there.frames near.frames (same_length there.heap near.heap (λ o. (crossed plan side near far one t agree fits can.like tells).headers o ∙ sym (agree.near_headers o))) stack can.lead;
  }

pub control_crosses : ControlCrosses
control_crosses plan side near far one t agree fits can tells = record {
  machine = in_control plan t far far.heap;
  taken = taken plan side near far one t agree fits can tells;
  agree = new_agree plan side near far one t agree fits can.like tells;
  can_tell = new_can plan side near far one t agree fits can tells;
}
