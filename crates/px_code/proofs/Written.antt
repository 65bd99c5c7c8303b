-- What a write does to what is read of a list, of a heap and of the top frame.
use Rattle.std.proofs.Common.{◌≡◌, ℕ, zero, suc, ◌-◌, List, [], ◌∷◌, length, Option, Some, None, slice_get, slice_set, refl, sym, ap, ◌∙◌, ◌⊎◌, inl, inr, ⊎_elim}
use Rattle.std.proofs.lemmas.Option.{same_Some}
use Rattle.px_value.specs.declared.value.Value.{Value}
use Rattle.px_value.specs.declared.value.Value.TheVariants.{Ref}
use Rattle.px_value.specs.declared.object.Object.{Object}
use Rattle.px_value.specs.declared.header.Header.{Header}
use Rattle.px_value.specs.Heap.{cell_of, cell_at, header_of, with_cell, written}
use Rattle.px_code.specs.declared.frame.Frame.{Frame}
use Rattle.px_code.specs.declared.frame.Slot.{Slot}
use Rattle.px_code.specs.Fits.{header_at}
use Rattle.px_code.specs.Machine.{slot_value, slots_in, slots_at, value_in, top, top_values, just_written, with_slot_in, filled}

-- ---- lists

-- what holds of an element after a write holds of what was written there, or held before
pub at_set : {A : Type 0} (P : Option A → Type 0) (xs : List A) (i j : ℕ) (x : A) → P (slice_get (slice_set xs i x) j) → ((i ≡ j) × P (Some x)) ⊎ P (slice_get xs j)
at_set P [] i j x h = inr h
at_set P (y ∷ xs) zero zero x h = inl (refl, h)
at_set P (y ∷ xs) zero (suc j) x h = inr h
at_set P (y ∷ xs) (suc i) zero x h = inr h
at_set P (y ∷ xs) (suc i) (suc j) x h = ⊎_elim (λ (t : (i ≡ j) × P (Some x)). inl (ap suc t.0, t.1)) inr (at_set P xs i j x h)

-- a view that the new element shares with the old one stays
pub view_set : {A B : Type 0} (view : Option A → B) (xs : List A) (i j : ℕ) (x y : A) → slice_get xs i ≡ Some x → view (Some y) ≡ view (Some x) → view (slice_get (slice_set xs i y) j) ≡ view (slice_get xs j)
view_set view [] i j x y h e = refl
view_set view (z ∷ xs) zero zero x y h e = e ∙ ap view (sym h)
view_set view (z ∷ xs) zero (suc j) x y h e = refl
view_set view (z ∷ xs) (suc i) zero x y h e = refl
view_set view (z ∷ xs) (suc i) (suc j) x y h e = view_set view xs i j x y h e

pub length-slice_set : {A : Type 0} (xs : List A) (i : ℕ) (x : A) → length (slice_set xs i x) ≡ length xs
length-slice_set [] i x = refl
length-slice_set (y ∷ xs) zero x = refl
length-slice_set (y ∷ xs) (suc i) x = ap suc (length-slice_set xs i x)

-- ---- heaps

header_kept : (o : Option Object) (heap : List Object) (object index : ℕ) (v : Value) (place : ℕ) → slice_get heap object ≡ o → header_at (with_cell o index v heap object) place ≡ header_at heap place
header_kept None heap object index v place e = refl
header_kept (Some o) heap object index v place e = view_set header_of heap object place o (record o { cells = slice_set o.cells index v }) e refl

pub header_at-written : (heap : List Object) (object index : ℕ) (v : Value) (place : ℕ) → header_at (written heap object index v) place ≡ header_at heap place
header_at-written heap object index v place = header_kept (slice_get heap object) heap object index v place refl

-- what stands in a cell after a write was written to it, or stood there before
abbrev pub IsWrittenOr : List Object → ℕ → ℕ → Value → ℕ → ℕ → Value → Type 0
IsWrittenOr heap object index v place at found = ((object ≡ place) × (index ≡ at) × (v ≡ found)) ⊎ (cell_at heap place at ≡ Some found)

cell_found : (o : Option Object) (heap : List Object) (object index : ℕ) (v : Value) (place at : ℕ) (found : Value) → slice_get heap object ≡ o → cell_at (with_cell o index v heap object) place at ≡ Some found → IsWrittenOr heap object index v place at found
cell_found None heap object index v place at found e h = inr h
cell_found (Some o) heap object index v place at found e h =
    let new : Object = record o { cells = slice_set o.cells index v } in
    ⊎_elim
    (λ (t : (object ≡ place) × (cell_of (Some new) at ≡ Some found)). ⊎_elim
    (λ (s : (index ≡ at) × (Some v ≡ Some found)). inl (t.0, s.0, same_Some v found s.1))
    (λ (s : slice_get o.cells at ≡ Some found). inr (ap (λ p. cell_at heap p at) (sym t.0) ∙ ap (λ (x : Option Object). cell_of x at) e ∙ s))
    (at_set (λ (x : Option Value). x ≡ Some found) o.cells index at v t.1))
    inr
    (at_set (λ (x : Option Object). cell_of x at ≡ Some found) heap object place new h)

pub cell_at-written : (heap : List Object) (object index : ℕ) (v : Value) (place at : ℕ) (found : Value) → cell_at (written heap object index v) place at ≡ Some found → IsWrittenOr heap object index v place at found
cell_at-written heap object index v place at found h = cell_found (slice_get heap object) heap object index v place at found refl h

-- an object after a write is one of before, but for its cells, which are as many
pub record IsAsBefore (heap : List Object) (place : ℕ) (o : Object) : Type 0 where
  pub before : Object
  pub was : slice_get heap place ≡ Some before
  pub header : o.header ≡ before.header
  pub counted : length o.cells ≡ length before.cells

object_found : (o : Option Object) (heap : List Object) (object index : ℕ) (v : Value) (place : ℕ) (found : Object) → slice_get heap object ≡ o → slice_get (with_cell o index v heap object) place ≡ Some found → IsAsBefore heap place found
object_found None heap object index v place found e h = record { before = found; was = h; header = refl; counted = refl }
object_found (Some o) heap object index v place found e h =
    let new : Object = record o { cells = slice_set o.cells index v } in
    ⊎_elim
    (λ (t : (object ≡ place) × (Some new ≡ Some found)).
    let same : new ≡ found = same_Some new found t.1 in
    record {
      before = o;
      was = ap (λ p. slice_get heap p) (sym t.0) ∙ e;
      header = ap (λ (x : Object). x.header) (sym same);
      counted = ap (λ (x : Object). length x.cells) (sym same) ∙ length-slice_set o.cells index v;
    })
    (λ (t : slice_get heap place ≡ Some found). record { before = found; was = t; header = refl; counted = refl })
    (at_set (λ (x : Option Object). x ≡ Some found) heap object place new h)

pub slice_get-written : (heap : List Object) (object index : ℕ) (v : Value) (place : ℕ) (found : Object) → slice_get (written heap object index v) place ≡ Some found → IsAsBefore heap place found
slice_get-written heap object index v place found h = object_found (slice_get heap object) heap object index v place found refl h

-- the object of a header
pub with_header : (o : Option Object) (h : Header) → header_of o ≡ Some h → (x : Object) × (o ≡ Some x) × (x.header ≡ h)
with_header None h e = cc
with_header (Some x) h e = (x, refl, same_Some x.header h e)

-- ---- the top frame

-- what stands in a slot after a write was written to it, or stood there before
abbrev pub IsFilledOr : List Frame → ℕ → Value → ℕ → ℕ → Type 0
IsFilledOr frames n v at target = ((n ≡ at) × (v ≡ Ref target)) ⊎ (top_values frames at ≡ Ref target)

value_found : (o : Option Frame) (frames : List Frame) (n : ℕ) (v : Value) (at target : ℕ) → slice_get frames (top frames) ≡ o → top_values (with_slot_in o n v frames (top frames)) at ≡ Ref target → IsFilledOr frames n v at target
value_found None frames n v at target e h = inr h
value_found (Some frame) frames n v at target e h =
    let f : ℕ = top frames in
    let new : Frame = record frame { slots = slice_set frame.slots n (just_written v) } in
    let same : top (slice_set frames f new) ≡ f = ap (λ (k : ℕ). k - 1) (length-slice_set frames f new) in
    let here : value_in (slots_at (slice_set frames f new) f) at ≡ Ref target = ap (λ (k : ℕ). value_in (slots_at (slice_set frames f new) k) at) (sym same) ∙ h in
    ⊎_elim
    (λ (t : (f ≡ f) × (slot_value (slice_get (slice_set frame.slots n (just_written v)) at) ≡ Ref target)). ⊎_elim
    (λ (s : (n ≡ at) × (v ≡ Ref target)). inl s)
    (λ (s : slot_value (slice_get frame.slots at) ≡ Ref target). inr (ap (λ (x : Option Frame). value_in (slots_in x) at) e ∙ s))
    (at_set (λ (x : Option Slot). slot_value x ≡ Ref target) frame.slots n at (just_written v) t.1))
    inr
    (at_set (λ (x : Option Frame). value_in (slots_in x) at ≡ Ref target) frames f f new here)

pub top_values-filled : (frames : List Frame) (n : ℕ) (v : Value) (at target : ℕ) → top_values (filled frames (top frames) n v) at ≡ Ref target → IsFilledOr frames n v at target
top_values-filled frames n v at target h = value_found (slice_get frames (top frames)) frames n v at target refl h
