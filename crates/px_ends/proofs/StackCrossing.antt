-- The stack that a message makes at the other end is the stack of the end that sent it.
use Rattle.std.proofs.Common.{◌≡◌, ℕ, suc, ◌+◌, Bool, true, false, List, [], ◌∷◌, ◌++◌, map, drop, length, Option, Some, slice_get, slice_set, refl, sym, ap, ◌∙◌, append_assoc, arith}
use Rattle.std.proofs.lemmas.List.{length_push, map-append, drop-map}
use Rattle.px_value.specs.declared.value.Value.{Value}
use Rattle.px_blocks.specs.Plan.{Plan}
use Rattle.px_blocks.specs.Machine.{Slot, Frame, just_written, with_slot_in, filled, Control}
use Rattle.px_blocks.specs.Message.{SlotAt, FrameTold, frame_told, slot_if, written_from, written_slots, with_slots, settled, settled_frame, all_settled, standing, in_control}
use Rattle.px_ends.specs.Agree.{SlotsLike, FrameLike, FramesLike, bare, Stacks}

-- ---- the middle of a list

get_middle : {A : Type 0} (front : List A) (x : A) (back : List A) → slice_get (front ++ x ∷ back) (length front) ≡ Some x
get_middle [] x back = refl
get_middle (y ∷ front) x back = get_middle front x back

set_middle : {A : Type 0} (front : List A) (x : A) (back : List A) (y : A) → slice_set (front ++ x ∷ back) (length front) y ≡ front ++ y ∷ back
set_middle [] x back y = refl
set_middle {A = A} (z ∷ front) x back y = ap (λ (zs : List A). z ∷ zs) (set_middle front x back y)

-- ---- the slots of one frame

abbrev with : Frame → List Slot → Frame
with x slots = record x { slots = slots }

-- a slot that was written has the new value
abbrev renewed : Bool → Value → Slot → Slot
renewed true v t = just_written v
renewed false v t = t

abbrev all_renewed : List Slot → List Slot → List Slot
all_renewed (s ∷ slots) (t ∷ others) = renewed s.written s.value t ∷ all_renewed slots others
all_renewed _ others = others

filled_middle : (lower : List Frame) (x : Frame) (upper : List Frame) (done : List Slot) (t : Slot) (rest : List Slot) (v : Value) → filled (lower ++ with x (done ++ t ∷ rest) ∷ upper) (length lower) (length done) v ≡ lower ++ with x (done ++ just_written v ∷ rest) ∷ upper
filled_middle lower x upper done t rest v =
    let y : Frame = with x (done ++ t ∷ rest) in
    ap (λ (o : Option Frame). with_slot_in o (length done) v (lower ++ y ∷ upper) (length lower)) (get_middle lower y upper)
    ∙ set_middle lower y upper (with x (slice_set (done ++ t ∷ rest) (length done) (just_written v)))
    ∙ ap (λ (slots : List Slot). lower ++ with x slots ∷ upper) (set_middle done t rest (just_written v))

told_if : (b : Bool) (f n : ℕ) (v : Value) (more : List SlotAt) (lower : List Frame) (x : Frame) (upper : List Frame) (done : List Slot) (t : Slot) (rest : List Slot) → length lower ≡ f → length done ≡ n
    → with_slots (slot_if b f n v more) (lower ++ with x (done ++ t ∷ rest) ∷ upper) ≡ with_slots more (lower ++ with x (done ++ renewed b v t ∷ rest) ∷ upper)
told_if true f n v more lower x upper done t rest here at =
    ap (with_slots more) ((λ i. filled (lower ++ with x (done ++ t ∷ rest) ∷ upper) (sym here i) (sym at i) v) ∙ filled_middle lower x upper done t rest v)
told_if false f n v more lower x upper done t rest here at = refl

-- the slots of a message fill those of their frame
slots_told : (slots others : List Slot) (f n : ℕ) (lower : List Frame) (x : Frame) (upper : List Frame) (done : List Slot) → length lower ≡ f → length done ≡ n → SlotsLike slots others
    → with_slots (written_from f n slots) (lower ++ with x (done ++ others) ∷ upper) ≡ lower ++ with x (done ++ all_renewed slots others) ∷ upper
slots_told [] others f n lower x upper done here at like = refl
slots_told (s ∷ slots) [] f n lower x upper done here at like = absurd like
slots_told (s ∷ slots) (t ∷ others) f n lower x upper done here at like =
    let r : Slot = renewed s.written s.value t in
    told_if s.written f n s.value (written_from f (n + 1) slots) lower x upper done t others here at
    ∙ ap (λ (ss : List Slot). with_slots (written_from f (n + 1) slots) (lower ++ with x ss ∷ upper)) (sym (append_assoc done (r ∷ []) others))
    ∙ slots_told slots others f (n + 1) lower x upper (done ++ r ∷ []) here (length_push done r ∙ ap (λ k. k + 1) at) like.1
    ∙ ap (λ (ss : List Slot). lower ++ with x ss ∷ upper) (append_assoc done (r ∷ []) (all_renewed slots others))

same_slot : (b : Bool) (v : Value) (t : Slot) → (b ≡ false → v ≡ t.value) → settled (renewed b v t) ≡ record { value = v; written = false }
same_slot true v t h = refl
same_slot false v t h = λ k. record { value = sym (h refl) k; written = false }

-- and then it has the values of the side with control
renewed_slots : (slots others : List Slot) → SlotsLike slots others → map settled (all_renewed slots others) ≡ map settled slots
renewed_slots [] [] like = refl
renewed_slots [] (t ∷ others) like = absurd like
renewed_slots (s ∷ slots) [] like = absurd like
renewed_slots (s ∷ slots) (t ∷ others) like = λ i. same_slot s.written s.value t like.0 i ∷ renewed_slots slots others like.1 i

-- ---- all frames

with_more : (slots more : List SlotAt) (frames : List Frame) → with_slots (slots ++ more) frames ≡ with_slots more (with_slots slots frames)
with_more [] more frames = refl
with_more (s ∷ slots) more frames = with_more slots more (filled frames s.frame s.slot s.value)

same_frame : (x y : Frame) → FrameLike x y → settled_frame (with y (all_renewed x.slots y.slots)) ≡ settled_frame x
same_frame x y like = λ i. record { method = sym like.method i; back = sym like.back i; slots = renewed_slots x.slots y.slots like.slots i }

frames_told : (frames others : List Frame) (f : ℕ) (lower : List Frame) → length lower ≡ f → FramesLike frames others → all_settled (with_slots (written_slots f frames) (lower ++ others)) ≡ all_settled lower ++ all_settled frames
frames_told [] [] f lower here like = map-append settled_frame lower []
frames_told [] (y ∷ others) f lower here like = absurd like
frames_told (x ∷ frames) [] f lower here like = absurd like
frames_told (x ∷ frames) (y ∷ others) f lower here like =
    let z : Frame = with y (all_renewed x.slots y.slots) in
    let rest : List SlotAt = written_slots (f + 1) frames in
    ap all_settled (with_more (written_from f 0 x.slots) rest (lower ++ y ∷ others))
    ∙ ap (λ (fs : List Frame). all_settled (with_slots rest fs)) (slots_told x.slots y.slots f 0 lower y others [] here refl like.0.slots)
    ∙ ap (λ (fs : List Frame). all_settled (with_slots rest fs)) (sym (append_assoc lower (z ∷ []) others))
    ∙ frames_told frames others (f + 1) (lower ++ z ∷ []) (length_push lower z ∙ ap (λ k. k + 1) here) like.1
    ∙ ap (λ (ss : List Frame). ss ++ all_settled frames) (map-append settled_frame lower (z ∷ []))
    ∙ append_assoc (all_settled lower) (settled_frame z ∷ []) (all_settled frames)
    ∙ ap (λ (s : Frame). all_settled lower ++ s ∷ all_settled frames) (same_frame x y like.0)

-- the other end takes in the stack of the message
pub stack_crosses : (plan : Plan) (c : Control) (lower : List Frame) → Stacks plan c lower → all_settled (with_slots (written_slots 0 c.frames) (standing plan c.base (map frame_told (drop c.base c.frames)) lower)) ≡ all_settled c.frames
stack_crosses plan c lower h =
    ap (λ (hs : List FrameTold). all_settled (with_slots (written_slots 0 c.frames) (standing plan c.base hs lower))) (sym (drop-map frame_told c.base c.frames))
    ∙ frames_told c.frames (bare plan c lower) 0 [] refl h.like

-- ---- and then both stacks are alike, with nothing written

settled_like : (slots : List Slot) → SlotsLike (map settled slots) slots
settled_like [] = tt
settled_like (s ∷ slots) = (λ _. refl, settled_like slots)

all_like : (plan : Plan) (frames : List Frame) → FramesLike (all_settled frames) (standing plan (length (all_settled frames)) (drop (length (all_settled frames)) (map frame_told (all_settled frames))) frames)
all_like plan [] = tt
all_like plan (x ∷ frames) = (record { method = refl; back = refl; slots = settled_like x.slots }, all_like plan frames)

length_settled : (frames : List Frame) → length (all_settled frames) ≡ length frames
length_settled [] = refl
length_settled (x ∷ frames) = ap suc (length_settled frames)

pub settled_stacks : (plan : Plan) (frames : List Frame) (turns known : ℕ) → Stacks plan (in_control (all_settled frames) turns known) frames
settled_stacks plan frames turns known = record { within = omega arith; reached = let e = length_settled frames in omega arith; like = all_like plan frames }
