-- The slots of a message are there.
use Rattle.std.proofs.Common.{◌≡◌, ℕ, zero, suc, ◌+◌, ◌-◌, ◌≤◌, ◌<◌, Bool, true, false, ◌&&◌, List, [], ◌∷◌, map, drop, length, slice_get, nat_lt, if◌then◌else◌, refl, sym, ap, subst, ◌∙◌, arith}
use Rattle.std.specs.List.{list_all}
use Rattle.std.proofs.Math.Nat.{suc-sub-suc}
use Rattle.std.proofs.lemmas.Bool.{lt-ltb, le-ltb, ltb-true, ltb-false}
use Rattle.std.proofs.lemmas.List.{drop-map}
use Rattle.std.proofs.lemmas.List.Folds.{list_all-append}
use Rattle.px_value.specs.declared.value.Value.{Value}
use Rattle.px_code.specs.declared.frame.Frame.{Frame}
use Rattle.px_code.specs.declared.frame.Slot.{Slot}
use Rattle.px_code.specs.declared.plan.Plan.{Plan}
use Rattle.px_code.specs.Machine.{slots_at}
use Rattle.px_wire.specs.declared.frame.Frame.{Frame as FrameTold}
use Rattle.px_wire.specs.declared.slot.SlotAt.{SlotAt}
use Rattle.px_half.specs.Messages.{frame_told, slot_if, written_from, written_slots}
use Rattle.px_half.specs.Absorbed.{blank_frame, blank_slots, blank_count, slot_count}
use Rattle.px_pair.specs.Crossing.{SlotsLike, FramesLike, SlotsAreThere}
use Rattle.px_pair.proofs.StackKeeping.{standing, bare_stands, none_missing}

-- ---- slots that are there, by how many a frame has

module _ (count : ℕ → ℕ) where
  abbrev is_there : SlotAt → Bool
  is_there s = nat_lt s.slot (count s.frame)

  both : (a b : Bool) → a ≡ true → b ≡ true → (a && b) ≡ true
  both true b h k = k
  both false b h k = cc

  there_if : (b : Bool) (f n : ℕ) (v : Value) (rest : List SlotAt) → n < count f → list_all is_there rest ≡ true → list_all is_there (slot_if b f n v rest) ≡ true
  there_if true f n v rest h k = both (nat_lt n (count f)) (list_all is_there rest) (lt-ltb n (count f) h) k
  there_if false f n v rest h k = k

  below : (n k c : ℕ) → n + suc k ≤ c → n < c
  below n k c h = omega arith

  next : (n k c : ℕ) → n + suc k ≤ c → n + 1 + k ≤ c
  next n k c h = omega arith

  from_there : (f n : ℕ) (slots : List Slot) → n + length slots ≤ count f → list_all is_there (written_from f n slots) ≡ true
  from_there f n [] h = refl
  from_there f n (s ∷ slots) h = there_if s.written f n s.value (written_from f (n + 1) slots) (below n (length slots) (count f) h) (from_there f (n + 1) slots (next n (length slots) (count f) h))

  at_first : (c k : ℕ) → c ≡ k → 0 + k ≤ c
  at_first c k e = omega arith

  first : (f : ℕ) → f + 0 ≡ f
  first f = omega arith

  later : (f k : ℕ) → f + 1 + k ≡ f + suc k
  later f k = omega arith

  all_there : (f : ℕ) (frames : List Frame) → ((k : ℕ) → count (f + k) ≡ length (slots_at frames k)) → list_all is_there (written_slots f frames) ≡ true
  all_there f [] counts = refl
  all_there f (x ∷ frames) counts =
      list_all-append is_there (written_from f 0 x.slots) (written_slots (f + 1) frames)
      ∙ both (list_all is_there (written_from f 0 x.slots)) (list_all is_there (written_slots (f + 1) frames))
      (from_there f 0 x.slots (at_first (count f) (length x.slots) (ap count (sym (first f)) ∙ counts 0)))
      (all_there (f + 1) frames (λ k. ap count (later f k) ∙ counts (suc k)))

-- ---- how many a frame has

same_count : (slots others : List Slot) → SlotsLike slots others → length slots ≡ length others
same_count [] [] like = refl
same_count [] (t ∷ others) like = absurd like
same_count (s ∷ slots) [] like = absurd like
same_count (s ∷ slots) (t ∷ others) like = ap suc (same_count slots others like.1)

none_below : (n : ℕ) → nat_lt n 0 ≡ false
none_below n = le-ltb n 0 least
  where
    least : 0 ≤ n
    least = omega arith

some_below : (n : ℕ) → nat_lt 0 (suc n) ≡ true
some_below n = lt-ltb 0 (suc n) more
  where
    more : 0 < suc n
    more = omega arith

above : (m n : ℕ) → nat_lt (suc m) (suc n) ≡ nat_lt m n
above m n = split (nat_lt m n) refl
  where
    more : m < n → suc m < suc n
    more h = omega arith

    less : n ≤ m → suc n ≤ suc m
    less h = omega arith

    split : (b : Bool) → nat_lt m n ≡ b → nat_lt (suc m) (suc n) ≡ nat_lt m n
    split true is = lt-ltb (suc m) (suc n) (more (ltb-true m n is)) ∙ sym is
    split false is = le-ltb (suc m) (suc n) (less (ltb-false m n is)) ∙ sym is

all_left : (n : ℕ) → n - 0 ≡ n
all_left n = omega arith

from_none : (n : ℕ) → 0 + n ≡ n
from_none n = omega arith

either : (b : Bool) (n : ℕ) → (if b then n else n) ≡ n
either true n = refl
either false n = refl

module _ (plan : Plan) where
  blank_counts : (frames : List Frame) (f : ℕ) → FramesLike frames (map (blank_frame plan) (map frame_told frames)) → blank_count plan (slice_get (map frame_told frames) f) ≡ length (slots_at frames f)
  blank_counts [] f like = refl
  blank_counts (x ∷ frames) zero like = sym (same_count x.slots (blank_slots plan x.method) like.0.slots)
  blank_counts (x ∷ frames) (suc f) like = blank_counts frames f like.1

  abbrev counted : ℕ → List Frame → List FrameTold → ℕ → ℕ
  counted base lower heads f = if nat_lt f base then length (slots_at lower f) else blank_count plan (slice_get heads (f - base))

  counts : (base : ℕ) (frames lower : List Frame) (f : ℕ) → FramesLike frames (standing plan base (map frame_told frames) lower) → counted base lower (drop base (map frame_told frames)) f ≡ length (slots_at frames f)
  counts zero frames lower f like =
      (λ i. if none_below f i then length (slots_at lower f) else blank_count plan (slice_get (map frame_told frames) (all_left f i)))
      ∙ blank_counts frames f like
  counts (suc base) [] [] f like = either (nat_lt f (suc base)) 0
  counts (suc base) [] (y ∷ lower) f like = absurd like
  counts (suc base) (x ∷ frames) [] f like = absurd (none_missing plan base x frames like)
  counts (suc base) (x ∷ frames) (y ∷ lower) zero like =
      (λ i. if some_below base i then length y.slots else blank_count plan (slice_get (drop base (map frame_told frames)) (0 - suc base)))
      ∙ sym (same_count x.slots y.slots like.0.slots)
  counts (suc base) (x ∷ frames) (y ∷ lower) (suc f) like =
      (λ i. if above f base i then length (slots_at lower f) else blank_count plan (slice_get (drop base (map frame_told frames)) (suc-sub-suc f base i)))
      ∙ counts base frames lower f like.1

pub slots_are_there : SlotsAreThere
slots_are_there plan near far t base frames like = all_there (slot_count plan t far.frames) 0 near.frames (λ k. ap (slot_count plan t far.frames) (from_none k) ∙ told k ∙ there k)
  where
    heads : t.frames ≡ drop near.base (map frame_told near.frames)
    heads = frames ∙ sym (drop-map frame_told near.base near.frames)

    told : (k : ℕ) → slot_count plan t far.frames k ≡ counted plan near.base far.frames (drop near.base (map frame_told near.frames)) k
    told k = λ i. counted plan (base i) far.frames (heads i) k

    there : (k : ℕ) → counted plan near.base far.frames (drop near.base (map frame_told near.frames)) k ≡ length (slots_at near.frames k)
    there k = counts plan near.base near.frames far.frames k (subst (FramesLike near.frames) (bare_stands plan near far) like)
