-- Slots that were written.
use Rattle.std.proofs.Common.{◌≡◌, ℕ, suc, ◌+◌, ◌-◌, ◌≤◌, List, [], ◌∷◌, ◌++◌, map, take, length, drop, refl, sym, ap, ◌∙◌, append_assoc, arith}
use Rattle.std.proofs.lemmas.List.{take-append-drop, length-take-le}
use Rattle.px_blocks.specs.Machine.{Slot, Frame}
use Rattle.px_blocks.specs.Message.{SlotAt, written_from, written_slots, settled, all_settled}
use Rattle.px_control.specs.Stack.{IsQuietBelow}

-- ---- none below the base

none_from : (f n : ℕ) (slots : List Slot) → written_from f n (map settled slots) ≡ []
none_from f n [] = refl
none_from f n (s ∷ slots) = none_from f (n + 1) slots

none_settled : (f : ℕ) (frames : List Frame) → written_slots f (all_settled frames) ≡ []
none_settled f [] = refl
none_settled f (x ∷ frames) = ap (λ (us : List SlotAt). us ++ written_slots (f + 1) (all_settled frames)) (none_from f 0 x.slots) ∙ none_settled (f + 1) frames

next_one : (f n : ℕ) → f + 1 + n ≡ f + suc n
next_one f n = omega arith

written_behind : (f : ℕ) (xs ys : List Frame) → written_slots f (xs ++ ys) ≡ written_slots f xs ++ written_slots (f + length xs) ys
written_behind f [] ys = ap (λ (k : ℕ). written_slots k ys) (omega arith)
written_behind f (x ∷ xs) ys =
    ap (λ (us : List SlotAt). written_from f 0 x.slots ++ us) (written_behind (f + 1) xs ys ∙ ap (λ (k : ℕ). written_slots (f + 1) xs ++ written_slots k ys) (next_one f (length xs)))
    ∙ sym (append_assoc (written_from f 0 x.slots) (written_slots (f + 1) xs) (written_slots (f + suc (length xs)) ys))

-- nothing is told of the frames below the highest that stood
pub written_above : (base : ℕ) (frames : List Frame) → IsQuietBelow base frames → written_slots (base - 1) (drop (base - 1) frames) ≡ written_slots 0 frames
written_above base frames q =
    let within : base - 1 ≤ length frames = omega (arith, q.within) in
    let long : 0 + length (take (base - 1) frames) ≡ base - 1 = omega (arith, length-take-le (base - 1) frames within) in
    sym (
    ap (written_slots 0) (sym (take-append-drop (base - 1) frames))
    ∙ written_behind 0 (take (base - 1) frames) (drop (base - 1) frames)
    ∙ ap (λ (us : List SlotAt). us ++ written_slots (0 + length (take (base - 1) frames)) (drop (base - 1) frames)) (sym (ap (written_slots 0) q.quiet) ∙ none_settled 0 (take (base - 1) frames))
    ∙ ap (λ (k : ℕ). written_slots k (drop (base - 1) frames)) long)
