-- Stacks without the marks of their slots.
use Rattle.std.proofs.Common.{◌≡◌, ℕ, zero, suc, ◌-◌, List, [], ◌∷◌, map, take, length, Option, Some, None, unwrap_or, slice_get, slice_set, refl, sym, ap, ◌∙◌}
use Rattle.std.specs.Option.{option_map}
use Rattle.std.proofs.lemmas.List.{length-map}
use Rattle.px_value.specs.declared.value.Value.{Value}
use Rattle.px_value.specs.declared.value.Value.TheVariants.{Null}
use Rattle.px_code.specs.declared.frame.Frame.{Frame}
use Rattle.px_code.specs.declared.frame.Slot.{Slot}
use Rattle.px_code.specs.Machine.{slot_value, slots_in, slots_at, value_in, top_values, with_slot_in, filled, filled_if, just_written, top, answered}
use Rattle.px_pair.specs.Agree.{Seen, seen}

get_map : {A B : Type 0} (f : A → B) (xs : List A) (n : ℕ) → slice_get (map f xs) n ≡ option_map f (slice_get xs n)
get_map f [] n = refl
get_map f (x ∷ xs) zero = refl
get_map f (x ∷ xs) (suc n) = get_map f xs n

map_set : {A B : Type 0} (f : A → B) (xs : List A) (n : ℕ) (y : A) → map f (slice_set xs n y) ≡ slice_set (map f xs) n (f y)
map_set f [] n y = refl
map_set f (x ∷ xs) zero y = refl
map_set {A = A} {B = B} f (x ∷ xs) (suc n) y = ap (λ (zs : List B). f x ∷ zs) (map_set f xs n y)

map_take : {A B : Type 0} (f : A → B) (n : ℕ) (xs : List A) → map f (take n xs) ≡ take n (map f xs)
map_take f zero xs = refl
map_take f (suc n) [] = refl
map_take {A = A} {B = B} f (suc n) (x ∷ xs) = ap (λ (zs : List B). f x ∷ zs) (map_take f n xs)

-- ---- the top

abbrev value : Slot → Value
value s = s.value

pub top_seen : (frames : List Frame) → top frames ≡ length (map seen frames) - 1
top_seen frames = ap (λ n. n - 1) (sym (length-map frames seen))

pub same_top : (xs ys : List Frame) → map seen xs ≡ map seen ys → top xs ≡ top ys
same_top xs ys e = top_seen xs ∙ ap (λ (ss : List Seen). length ss - 1) e ∙ sym (top_seen ys)

-- ---- values

abbrev value_of : Option Seen → ℕ → Value
value_of None n = Null
value_of (Some s) n = unwrap_or (slice_get s.values n) Null

slot_seen : (o : Option Slot) → slot_value o ≡ unwrap_or (option_map value o) Null
slot_seen None = refl
slot_seen (Some s) = refl

frame_seen : (o : Option Frame) (n : ℕ) → value_in (slots_in o) n ≡ value_of (option_map seen o) n
frame_seen None n = refl
frame_seen (Some f) n = slot_seen (slice_get f.slots n) ∙ ap (λ (o : Option Value). unwrap_or o Null) (sym (get_map value f.slots n))

value_seen : (frames : List Frame) (f n : ℕ) → value_in (slots_at frames f) n ≡ value_of (slice_get (map seen frames) f) n
value_seen frames f n = frame_seen (slice_get frames f) n ∙ ap (λ (o : Option Seen). value_of o n) (sym (get_map seen frames f))

pub same_values : (xs ys : List Frame) → map seen xs ≡ map seen ys → top_values xs ≡ top_values ys
same_values xs ys e = λ i n. (value_seen xs (top xs) n ∙ ap (λ (ss : List Seen). value_of (slice_get ss (top xs)) n) e ∙ sym (value_seen ys (top xs) n) ∙ ap (λ f. value_in (slots_at ys f) n) (same_top xs ys e)) i

-- ---- a slot is written

abbrev refilled : Option Seen → ℕ → Value → List Seen → ℕ → List Seen
refilled None n v ss f = ss
refilled (Some s) n v ss f = slice_set ss f (record s { values = slice_set s.values n v })

filled_by : (o : Option Frame) (n : ℕ) (v : Value) (frames : List Frame) (f : ℕ) → map seen (with_slot_in o n v frames f) ≡ refilled (option_map seen o) n v (map seen frames) f
filled_by None n v frames f = refl
filled_by (Some x) n v frames f =
    map_set seen frames f (record x { slots = slice_set x.slots n (just_written v) })
    ∙ ap (λ (vs : List Value). slice_set (map seen frames) f (record { method = x.method; back = x.back; values = vs })) (map_set value x.slots n (just_written v))

seen_filled : (frames : List Frame) (f n : ℕ) (v : Value) → map seen (filled frames f n v) ≡ refilled (slice_get (map seen frames) f) n v (map seen frames) f
seen_filled frames f n v = filled_by (slice_get frames f) n v frames f ∙ ap (λ (o : Option Seen). refilled o n v (map seen frames) f) (sym (get_map seen frames f))

pub same_filled : (xs ys : List Frame) (f n : ℕ) (v : Value) → map seen xs ≡ map seen ys → map seen (filled xs f n v) ≡ map seen (filled ys f n v)
same_filled xs ys f n v e = seen_filled xs f n v ∙ ap (λ (ss : List Seen). refilled (slice_get ss f) n v ss f) e ∙ sym (seen_filled ys f n v)

pub same_filled_if : (xs ys : List Frame) (f : ℕ) (n : Option ℕ) (v : Value) → map seen xs ≡ map seen ys → map seen (filled_if xs f n v) ≡ map seen (filled_if ys f n v)
same_filled_if xs ys f None v e = e
same_filled_if xs ys f (Some n) v e = same_filled xs ys f n v e

-- ---- a frame is left

pub same_take : (n : ℕ) (xs ys : List Frame) → map seen xs ≡ map seen ys → map seen (take n xs) ≡ map seen (take n ys)
same_take n xs ys e = map_take seen n xs ∙ ap (λ (ss : List Seen). take n ss) e ∙ sym (map_take seen n ys)

pub same_answered : (r : Option Value) (xs ys : List Frame) → map seen xs ≡ map seen ys → map seen (answered r xs) ≡ map seen (answered r ys)
same_answered None xs ys e = e
same_answered (Some v) xs ys e = ap (λ f. map seen (filled xs (f - 1) 0 v)) (same_top xs ys e) ∙ same_filled xs ys (top ys - 1) 0 v e
