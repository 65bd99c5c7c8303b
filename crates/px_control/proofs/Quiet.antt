-- Frames in which no slot is written stay so while fewer of them are counted.
use Rattle.std.proofs.Common.{◌≡◌, ℕ, zero, suc, ◌≤◌, List, [], ◌∷◌, take, length, Option, Some, None, slice_get, refl, sym, ap, ◌∙◌, arith}
use Rattle.std.proofs.lemmas.List.{take-map, take-set-le, length-set}
use Rattle.px_value.specs.declared.value.Value.{Value}
use Rattle.px_blocks.specs.Machine.{Frame, with_slot_in}
use Rattle.px_blocks.specs.Message.{settled_frame, all_settled}
use Rattle.px_control.specs.Stack.{filled_if}

pub take_less : {A : Type 0} (k n : ℕ) (xs : List A) → k ≤ n → take k (take n xs) ≡ take k xs
take_less zero n xs h = refl
take_less (suc k) zero xs h = absurd (omega arith)
take_less (suc k) (suc n) [] h = refl
take_less {A = A} (suc k) (suc n) (x ∷ xs) h = let less : k ≤ n = omega arith in ap (λ (ys : List A). x ∷ ys) (take_less k n xs less)

pub quiet_less : (k n : ℕ) (frames : List Frame) → k ≤ n → all_settled (take n frames) ≡ take n frames → all_settled (take k frames) ≡ take k frames
quiet_less k n frames h q =
    sym (ap all_settled (take_less k n frames h))
    ∙ sym (take-map settled_frame k (take n frames))
    ∙ ap (take k) q
    ∙ take_less k n frames h

-- ---- a slot is filled

take_with : (o : Option Frame) (slot : ℕ) (v : Value) (frames : List Frame) (f k : ℕ) → k ≤ f → take k (with_slot_in o slot v frames f) ≡ take k frames
take_with None slot v frames f k h = refl
take_with (Some frame) slot v frames f k h = take-set-le k frames f _ h

pub take_filled : (frames : List Frame) (f : ℕ) (to : Option ℕ) (v : Value) (k : ℕ) → k ≤ f → take k (filled_if frames f to v) ≡ take k frames
take_filled frames f None v k h = refl
take_filled frames f (Some slot) v k h = take_with (slice_get frames f) slot v frames f k h

length_with : (o : Option Frame) (slot : ℕ) (v : Value) (frames : List Frame) (f : ℕ) → length (with_slot_in o slot v frames f) ≡ length frames
length_with None slot v frames f = refl
length_with (Some frame) slot v frames f = length-set frames f _

pub length_filled : (frames : List Frame) (f : ℕ) (to : Option ℕ) (v : Value) → length (filled_if frames f to v) ≡ length frames
length_filled frames f None v = refl
length_filled frames f (Some slot) v = length_with (slice_get frames f) slot v frames f
