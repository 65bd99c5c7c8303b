-- What the frames of a machine hold, without what was written since control came.
use Rattle.std.proofs.Common.{◌≡◌, ℕ, zero, suc, ◌-◌, List, [], ◌∷◌, ◌++◌, map, take, length, Option, Some, None, slice_get, slice_set, refl, sym, ap, ◌∙◌, arith, append_assoc}
use Rattle.std.proofs.lemmas.List.{length_push, map-append}
use Rattle.px_value.specs.declared.value.Value.{Value}
use Rattle.px_normal.specs.declared.code.Code.{Code}
use Rattle.px_normal.specs.First.{Slots, with_first}
use Rattle.px_normal.specs.Words.{with_slot}
use Rattle.px_blocks.specs.Machine.{blank_values, slots_from, Slot, Frame, just_written, unwritten, values_in, slots_in, slots_at, top, with_slot_in, filled, given, entered, Control, put_in_slot, one_less, back_in, popped}
use Rattle.px_blocks.specs.Message.{settled, all_settled}

pub record Plain : Type 0 where
  pub method : ℕ
  pub back : ℕ
  pub slots : Slots

abbrev pub plain : Frame → Plain
plain f = record { method = f.method; back = f.back; slots = values_in f.slots }

abbrev pub plains : List Frame → List Plain
plains frames = map plain frames

abbrev pub with_values : Slots → Plain → Plain
with_values slots p = record p { slots = slots }

-- ---- the middle of a list

get_middle : {A : Type 0} (front : List A) (x : A) (back : List A) → slice_get (front ++ x ∷ back) (length front) ≡ Some x
get_middle [] x back = refl
get_middle (y ∷ front) x back = get_middle front x back

set_middle : {A : Type 0} (front : List A) (x : A) (back : List A) (y : A) → slice_set (front ++ x ∷ back) (length front) y ≡ front ++ y ∷ back
set_middle [] x back y = refl
set_middle {A = A} (z ∷ front) x back y = ap (λ (zs : List A). z ∷ zs) (set_middle front x back y)

take_middle : {A : Type 0} (front : List A) (x : A) (back : List A) → take (suc (length front)) (front ++ x ∷ back) ≡ front ++ x ∷ []
take_middle [] x back = refl
take_middle {A = A} (z ∷ front) x back = ap (λ (zs : List A). z ∷ zs) (take_middle front x back)

-- ---- the frame that runs

pub record Lasts (frames : List Frame) (under : List Plain) (p : Plain) : Type 0 where
  pub lower : List Frame
  pub frame : Frame
  pub is : frames ≡ lower ++ frame ∷ []
  pub lower_is : plains lower ≡ under
  pub frame_is : plain frame ≡ p

pub lasts : (frames : List Frame) (under : List Plain) (p : Plain) → plains frames ≡ under ++ p ∷ [] → Lasts frames under p
lasts [] [] p e = absurd (let x : ⊥ = cc in x)
lasts [] (q ∷ under) p e = absurd (let x : ⊥ = cc in x)
lasts (f ∷ []) [] p e = record { lower = []; frame = f; is = refl; lower_is = refl; frame_is = cc }
lasts (f ∷ g ∷ frames) [] p e = absurd (let x : ⊥ = cc in x)
lasts (f ∷ frames) (q ∷ under) p e =
    let l = lasts frames under p (let x : plains frames ≡ under ++ p ∷ [] = cc in x) in
    let h : plain f ≡ q = cc in
    record { lower = f ∷ l.lower; frame = l.frame; is = ap (λ (fs : List Frame). f ∷ fs) l.is; lower_is = λ i. h i ∷ l.lower_is i; frame_is = l.frame_is }

length_plains : (frames : List Frame) → length (plains frames) ≡ length frames
length_plains [] = refl
length_plains (f ∷ frames) = ap suc (length_plains frames)

pub how_many : (frames : List Frame) (under : List Plain) (p : Plain) → plains frames ≡ under ++ p ∷ [] → length frames ≡ suc (length under)
how_many frames under p e = let a = sym (length_plains frames) ∙ ap length e ∙ length_push under p in omega (arith, a)

top_is : (lower : List Frame) (f : Frame) → top (lower ++ f ∷ []) ≡ length lower
top_is lower f = let a = length_push lower f in omega (arith, a)

pub top_slots : (frames : List Frame) (under : List Plain) (p : Plain) → plains frames ≡ under ++ p ∷ [] → values_in (slots_at frames (top frames)) ≡ p.slots
top_slots frames under p e =
    let l = lasts frames under p e in
    ap (λ (fs : List Frame). values_in (slots_at fs (top fs))) l.is
    ∙ ap (λ n. values_in (slots_at (l.lower ++ l.frame ∷ []) n)) (top_is l.lower l.frame)
    ∙ ap (λ (o : Option Frame). values_in (slots_in o)) (get_middle l.lower l.frame [])
    ∙ ap (λ (q : Plain). q.slots) l.frame_is

pub top_back : (frames : List Frame) (under : List Plain) (p : Plain) → plains frames ≡ under ++ p ∷ [] → back_in (slice_get frames (top frames)) ≡ p.back
top_back frames under p e =
    let l = lasts frames under p e in
    ap (λ (fs : List Frame). back_in (slice_get fs (top fs))) l.is
    ∙ ap (λ n. back_in (slice_get (l.lower ++ l.frame ∷ []) n)) (top_is l.lower l.frame)
    ∙ ap back_in (get_middle l.lower l.frame [])
    ∙ ap (λ (q : Plain). q.back) l.frame_is

-- ---- a slot is filled

values_set : (slots : List Slot) (n : ℕ) (v : Value) → values_in (slice_set slots n (just_written v)) ≡ slice_set (values_in slots) n v
values_set [] n v = refl
values_set (s ∷ slots) zero v = refl
values_set (s ∷ slots) (suc n) v = ap (λ (vs : Slots). s.value ∷ vs) (values_set slots n v)

filled_middle : (lower : List Frame) (f : Frame) (upper : List Frame) (n : ℕ) (v : Value) → filled (lower ++ f ∷ upper) (length lower) n v ≡ lower ++ record f { slots = slice_set f.slots n (just_written v) } ∷ upper
filled_middle lower f upper n v =
    ap (λ (o : Option Frame). with_slot_in o n v (lower ++ f ∷ upper) (length lower)) (get_middle lower f upper)
    ∙ set_middle lower f upper (record f { slots = slice_set f.slots n (just_written v) })

filled_plains : (lower : List Frame) (f : Frame) (upper : List Frame) (n : ℕ) (v : Value) → plains (filled (lower ++ f ∷ upper) (length lower) n v) ≡ plains lower ++ with_values (slice_set (values_in f.slots) n v) (plain f) ∷ plains upper
filled_plains lower f upper n v =
    ap plains (filled_middle lower f upper n v)
    ∙ map-append plain lower (record f { slots = slice_set f.slots n (just_written v) } ∷ upper)
    ∙ ap (λ (vs : Slots). plains lower ++ with_values vs (plain f) ∷ plains upper) (values_set f.slots n v)

pub top_filled : (c : Control) (under : List Plain) (p : Plain) (to : Option ℕ) (v : Value) → plains c.frames ≡ under ++ p ∷ [] → plains (put_in_slot (top c.frames) to v c).frames ≡ under ++ with_values (with_slot to v p.slots) p ∷ []
top_filled c under p None v e = e
top_filled c under p (Some n) v e =
    let l = lasts c.frames under p e in
    ap (λ (fs : List Frame). plains (filled fs (top fs) n v)) l.is
    ∙ ap (λ m. plains (filled (l.lower ++ l.frame ∷ []) m n v)) (top_is l.lower l.frame)
    ∙ filled_plains l.lower l.frame [] n v
    ∙ (λ i. l.lower_is i ++ with_values (slice_set (l.frame_is i).slots n v) (l.frame_is i) ∷ [])

-- ---- a frame is left

pub frame_left : (c : Control) (under : List Plain) (p q : Plain) (to : Option ℕ) (v : Value) → plains c.frames ≡ (under ++ p ∷ []) ++ q ∷ [] → plains (popped (put_in_slot (top c.frames - 1) to v c)).frames ≡ under ++ with_values (with_slot to v p.slots) p ∷ []
frame_left c under p q to v e =
    let l = lasts c.frames (under ++ p ∷ []) q e in
    let k = lasts l.lower under p l.lower_is in
    let is : c.frames ≡ k.lower ++ k.frame ∷ l.frame ∷ [] = l.is ∙ ap (λ (fs : List Frame). fs ++ l.frame ∷ []) k.is ∙ append_assoc k.lower (k.frame ∷ []) (l.frame ∷ []) in
    let two : length c.frames ≡ suc (suc (length k.lower)) = let a = ap length l.is ∙ length_push l.lower l.frame in let b = ap length k.is ∙ length_push k.lower k.frame in omega (arith, a, b) in
    ap (λ n. plains (popped (put_in_slot n to v c)).frames) (let x : top c.frames - 1 ≡ length k.lower = omega (arith, two) in x)
    ∙ by_value k.lower k.frame l.frame is to v
    ∙ (λ i. k.lower_is i ++ with_values (with_slot to v (k.frame_is i).slots) (k.frame_is i) ∷ [])
  where
    cut_plains : (fs : List Frame) (lower : List Frame) (f g : Frame) → fs ≡ lower ++ f ∷ g ∷ [] → plains (take (one_less (length fs)) fs) ≡ plains lower ++ plain f ∷ []
    cut_plains fs lower f g is =
        ap (λ (gs : List Frame). plains (take (one_less (length gs)) gs)) is
        ∙ ap (λ n. plains (take (one_less n) (lower ++ f ∷ g ∷ []))) (let a = ap length (sym (append_assoc lower (f ∷ []) (g ∷ []))) ∙ length_push (lower ++ f ∷ []) g in let b = length_push lower f in let x : length (lower ++ f ∷ g ∷ []) ≡ suc (suc (length lower)) = omega (arith, a, b) in x)
        ∙ ap plains (take_middle lower f (g ∷ []))
        ∙ map-append plain lower (f ∷ [])

    by_value : (lower : List Frame) (f g : Frame) → c.frames ≡ lower ++ f ∷ g ∷ [] → (to : Option ℕ) (v : Value) → plains (popped (put_in_slot (length lower) to v c)).frames ≡ plains lower ++ with_values (with_slot to v (plain f).slots) (plain f) ∷ []
    by_value lower f g is None v = cut_plains c.frames lower f g is
    by_value lower f g is (Some n) v =
        cut_plains (filled c.frames (length lower) n v) lower (record f { slots = slice_set f.slots n (just_written v) }) g (ap (λ (fs : List Frame). filled fs (length lower) n v) is ∙ filled_middle lower f (g ∷ []) n v)
        ∙ ap (λ (vs : Slots). plains lower ++ with_values vs (plain f) ∷ []) (values_set f.slots n v)

-- ---- a frame is entered

given_values : (vs : List Value) (blank : Slots) → values_in (given vs (map unwritten blank)) ≡ with_first vs blank
given_values [] [] = refl
given_values [] (b ∷ blank) = ap (λ (bs : Slots). b ∷ bs) (given_values [] blank)
given_values (v ∷ vs) [] = refl
given_values (v ∷ vs) (b ∷ blank) = ap (λ (bs : Slots). v ∷ bs) (given_values vs blank)

pub entered_plain : (code : Code) (method back : ℕ) (values : List Value) → plain (entered code method back values) ≡ record { method = method; back = back; slots = slots_from code method values }
entered_plain code method back values = λ i. record { method = method; back = back; slots = given_values values (blank_values code method) i }

pub pushed_plains : (code : Code) (method back : ℕ) (values : List Value) (frames : List Frame) (under : List Plain) → plains frames ≡ under → plains (frames ++ entered code method back values ∷ []) ≡ under ++ record { method = method; back = back; slots = slots_from code method values } ∷ []
pushed_plains code method back values frames under e = map-append plain frames (entered code method back values ∷ []) ∙ (λ i. e i ++ entered_plain code method back values i ∷ [])

-- ---- control goes over

settled_values : (slots : List Slot) → values_in (map settled slots) ≡ values_in slots
settled_values [] = refl
settled_values (s ∷ slots) = ap (λ (vs : Slots). s.value ∷ vs) (settled_values slots)

pub settled_plains : (frames : List Frame) → plains (all_settled frames) ≡ plains frames
settled_plains [] = refl
settled_plains (f ∷ frames) = λ i. record { method = f.method; back = f.back; slots = settled_values f.slots i } ∷ settled_plains frames i
