-- The stack after a message.
use Rattle.std.proofs.Common.{◌≡◌, ℕ, ◌+◌, Bool, true, false, List, [], ◌∷◌, ◌++◌, map, length, Option, Some, slice_get, slice_set, refl, sym, ap, ◌∙◌, append_assoc}
use Rattle.std.proofs.lemmas.List.{length_push, map-append}
use Rattle.px_value.specs.declared.value.Value.{Value}
use Rattle.px_code.specs.declared.frame.Frame.{Frame}
use Rattle.px_code.specs.declared.frame.Slot.{Slot}
use Rattle.px_code.specs.Slots.{all_settled}
use Rattle.px_code.specs.Machine.{with_slot_in, filled, just_written}
use Rattle.px_wire.specs.declared.slot.SlotAt.{SlotAt}
use Rattle.px_half.specs.Messages.{slot_if, written_from, written_slots}
use Rattle.px_half.specs.Absorbed.{with_slots, settled_frame}
use Rattle.px_pair.specs.Agree.{Seen, seen}
use Rattle.px_pair.specs.Crossing.{SlotsLike, FrameLike, FramesLike, bare, StackCrosses}

-- ---- the middle of a list

get_middle : {A : Type 0} (front : List A) (x : A) (back : List A) → slice_get (front ++ x ∷ back) (length front) ≡ Some x
get_middle [] x back = refl
get_middle (y ∷ front) x back = get_middle front x back

set_middle : {A : Type 0} (front : List A) (x : A) (back : List A) (y : A) → slice_set (front ++ x ∷ back) (length front) y ≡ front ++ y ∷ back
set_middle [] x back y = refl
set_middle {A = A} (z ∷ front) x back y = ap (λ (zs : List A). z ∷ zs) (set_middle front x back y)

-- ---- the slots of one frame

abbrev with : Frame → List Slot → Frame
with x slots = record x { slots = slots }

-- a slot that was written has the new value
abbrev renewed : Bool → Value → Slot → Slot
renewed true v t = just_written v
renewed false v t = t

abbrev all_renewed : List Slot → List Slot → List Slot
all_renewed (s ∷ slots) (t ∷ others) = renewed s.written s.value t ∷ all_renewed slots others
all_renewed _ others = others

filled_middle : (lower : List Frame) (x : Frame) (upper : List Frame) (done : List Slot) (t : Slot) (rest : List Slot) (v : Value) → filled (lower ++ with x (done ++ t ∷ rest) ∷ upper) (length lower) (length done) v ≡ lower ++ with x (done ++ just_written v ∷ rest) ∷ upper
filled_middle lower x upper done t rest v =
    let y : Frame = with x (done ++ t ∷ rest) in
    ap (λ (o : Option Frame). with_slot_in o (length done) v (lower ++ y ∷ upper) (length lower)) (get_middle lower y upper)
    ∙ set_middle lower y upper (with x (slice_set (done ++ t ∷ rest) (length done) (just_written v)))
    ∙ ap (λ (slots : List Slot). lower ++ with x slots ∷ upper) (set_middle done t rest (just_written v))

told_if : (b : Bool) (f n : ℕ) (v : Value) (more : List SlotAt) (lower : List Frame) (x : Frame) (upper : List Frame) (done : List Slot) (t : Slot) (rest : List Slot) → length lower ≡ f → length done ≡ n
    → with_slots (slot_if b f n v more) (lower ++ with x (done ++ t ∷ rest) ∷ upper) ≡ with_slots more (lower ++ with x (done ++ renewed b v t ∷ rest) ∷ upper)
told_if true f n v more lower x upper done t rest here at =
    ap (with_slots more) ((λ i. filled (lower ++ with x (done ++ t ∷ rest) ∷ upper) (sym here i) (sym at i) v) ∙ filled_middle lower x upper done t rest v)
told_if false f n v more lower x upper done t rest here at = refl

-- the slots of a message fill those of their frame
slots_told : (slots others : List Slot) (f n : ℕ) (lower : List Frame) (x : Frame) (upper : List Frame) (done : List Slot) → length lower ≡ f → length done ≡ n → SlotsLike slots others
    → with_slots (written_from f n slots) (lower ++ with x (done ++ others) ∷ upper) ≡ lower ++ with x (done ++ all_renewed slots others) ∷ upper
slots_told [] others f n lower x upper done here at like = refl
slots_told (s ∷ slots) [] f n lower x upper done here at like = absurd like
slots_told (s ∷ slots) (t ∷ others) f n lower x upper done here at like =
    let r : Slot = renewed s.written s.value t in
    told_if s.written f n s.value (written_from f (n + 1) slots) lower x upper done t others here at
    ∙ ap (λ (ss : List Slot). with_slots (written_from f (n + 1) slots) (lower ++ with x ss ∷ upper)) (sym (append_assoc done (r ∷ []) others))
    ∙ slots_told slots others f (n + 1) lower x upper (done ++ r ∷ []) here (length_push done r ∙ ap (λ k. k + 1) at) like.1
    ∙ ap (λ (ss : List Slot). lower ++ with x ss ∷ upper) (append_assoc done (r ∷ []) (all_renewed slots others))

abbrev value : Slot → Value
value s = s.value

same_value : (b : Bool) (v : Value) (t : Slot) → (b ≡ false → v ≡ t.value) → (renewed b v t).value ≡ v
same_value true v t h = refl
same_value false v t h = sym (h refl)

-- and then it has the values of the side with control
renewed_values : (slots others : List Slot) → SlotsLike slots others → map value (all_renewed slots others) ≡ map value slots
renewed_values [] [] like = refl
renewed_values [] (t ∷ others) like = absurd like
renewed_values (s ∷ slots) [] like = absurd like
renewed_values (s ∷ slots) (t ∷ others) like = λ i. same_value s.written s.value t like.0 i ∷ renewed_values slots others like.1 i

-- ---- all frames

with_more : (slots more : List SlotAt) (frames : List Frame) → with_slots (slots ++ more) frames ≡ with_slots more (with_slots slots frames)
with_more [] more frames = refl
with_more (s ∷ slots) more frames = with_more slots more (filled frames s.frame s.slot s.value)

same_seen : (x y : Frame) → FrameLike x y → seen (with y (all_renewed x.slots y.slots)) ≡ seen x
same_seen x y like = λ i. record { method = sym like.method i; back = sym like.back i; values = renewed_values x.slots y.slots like.slots i }

frames_told : (frames others : List Frame) (f : ℕ) (lower : List Frame) → length lower ≡ f → FramesLike frames others → map seen (with_slots (written_slots f frames) (lower ++ others)) ≡ map seen lower ++ map seen frames
frames_told [] [] f lower here like = map-append seen lower []
frames_told [] (y ∷ others) f lower here like = absurd like
frames_told (x ∷ frames) [] f lower here like = absurd like
frames_told (x ∷ frames) (y ∷ others) f lower here like =
    let z : Frame = with y (all_renewed x.slots y.slots) in
    let rest : List SlotAt = written_slots (f + 1) frames in
    ap (map seen) (with_more (written_from f 0 x.slots) rest (lower ++ y ∷ others))
    ∙ ap (λ (fs : List Frame). map seen (with_slots rest fs)) (slots_told x.slots y.slots f 0 lower y others [] here refl like.0.slots)
    ∙ ap (λ (fs : List Frame). map seen (with_slots rest fs)) (sym (append_assoc lower (z ∷ []) others))
    ∙ frames_told frames others (f + 1) (lower ++ z ∷ []) (length_push lower z ∙ ap (λ k. k + 1) here) like.1
    ∙ ap (λ (ss : List Seen). ss ++ map seen frames) (map-append seen lower (z ∷ []))
    ∙ append_assoc (map seen lower) (seen z ∷ []) (map seen frames)
    ∙ ap (λ (s : Seen). map seen lower ++ s ∷ map seen frames) (same_seen x y like.0)

-- ---- settled

settled_values : (slots : List Slot) → map value (all_settled slots) ≡ map value slots
settled_values [] = refl
settled_values (s ∷ slots) = ap (λ (vs : List Value). s.value ∷ vs) (settled_values slots)

settled_seen : (frames : List Frame) → map seen (map settled_frame frames) ≡ map seen frames
settled_seen [] = refl
settled_seen (x ∷ frames) = λ i. record { method = x.method; back = x.back; values = settled_values x.slots i } ∷ settled_seen frames i

pub stack_crosses : StackCrosses
stack_crosses plan near far like = settled_seen (with_slots (written_slots 0 near.frames) (bare plan near far)) ∙ frames_told near.frames (bare plan near far) 0 [] refl like
