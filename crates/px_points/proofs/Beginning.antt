-- The marks with which the passes begin.
use Rattle.std.proofs.Common.{◌≡◌, ℕ, zero, suc, Bool, true, false, List, [], ◌∷◌, length, map, Option, Some, unwrap_or, slice_get, refl, sym, ap, ◌∙◌, subst, ⊎_elim, arith}
use Rattle.std.specs.List.{AllByRecursion}
use Rattle.std.proofs.lemmas.List.{length-replicate}
use Rattle.std.proofs.lemmas.Option.{same_Some}
use Rattle.px_code.specs.declared.method.Method.{Method}
use Rattle.px_code.specs.declared.code.Code.{Code}
use Rattle.px_code.specs.WellFormed.{IsWellFormed, IsMethodOf, main_fields}
use Rattle.px_code.specs.Points.{PointsTo, InSlot, this}
use Rattle.px_code.proofs.Written.{length-slice_set}
use Rattle.px_points.specs.Marks.{is_marked, unmarked}
use Rattle.px_points.specs.Places.{marks_at, slot_at}
use Rattle.px_points.specs.Analysis.{marked_if, first_marks, first_places}
use Rattle.px_points.proofs.Marking.{is_marked-with_mark, marked_now}
use Rattle.px_points.proofs.Flows.{Holds}

none_marked : (count n : ℕ) → is_marked (unmarked count) n ≡ true → ⊥
none_marked zero n h = cc
none_marked (suc count) zero h = cc
none_marked (suc count) (suc n) h = none_marked count n h

slice_get-map : {A B : Type 0} (f : A → B) (xs : List A) (k : ℕ) (x : A) → slice_get xs k ≡ Some x → slice_get (map f xs) k ≡ Some (f x)
slice_get-map f [] k x h = absurd cc
slice_get-map {A} {B} f (y ∷ xs) zero x h = ap (λ (z : A). Some (f z)) (same_Some y x h)
slice_get-map f (y ∷ xs) (suc k) x h = slice_get-map f xs k x h

-- the marks of the method at a place
marks_of : (methods : List Method) (place : ℕ) (method : Method) → slice_get methods place ≡ Some method → marks_at (map first_marks methods) place ≡ first_marks method
marks_of methods place method is = ap (λ (o : Option (List Bool)). unwrap_or o []) (slice_get-map first_marks methods place method is)

first-marked : (entry : Bool) (count n : ℕ) → is_marked (marked_if entry (unmarked count)) n ≡ true → (entry ≡ true) × (n ≡ 0)
first-marked true count n h = ⊎_elim
    (λ (e : 0 ≡ n). (refl, sym e))
    (λ (t : is_marked (unmarked count) n ≡ true). absurd (none_marked count n t))
    (is_marked-with_mark (unmarked count) 0 n h)
first-marked false count n h = absurd (none_marked count n h)

first-length : (entry : Bool) (count : ℕ) → length (marked_if entry (unmarked count)) ≡ count
first-length true count = length-slice_set (unmarked count) 0 true ∙ length-replicate count false
first-length false count = length-replicate count false

-- a method by its place, or none
slots-first : (methods : List Method) (place n : ℕ) → slot_at (record { slots = map first_marks methods; fields = [] }) place n ≡ true → (method : Method) × (slice_get methods place ≡ Some method) × (method.entry ≡ true) × (n ≡ 0)
slots-first [] place n h = absurd cc
slots-first (method ∷ methods) zero n h =
    let t = first-marked method.entry (length method.slots) n h in
    (method, refl, t.0, t.1)
slots-first (method ∷ methods) (suc place) n h = slots-first methods place n h

method-formed : (code : Code) (methods : List Method) (place : ℕ) (method : Method) → AllByRecursion (IsMethodOf code) methods → slice_get methods place ≡ Some method → IsMethodOf code method
method-formed code [] place method all is = absurd cc
method-formed code (m ∷ methods) zero method all is = subst (IsMethodOf code) (same_Some m method is) all.0
method-formed code (m ∷ methods) (suc place) method all is = method-formed code methods place method all.1 is

pub holds_first : (code : Code) → IsWellFormed code → Holds code (first_places code)
holds_first code formed = record {
  slots = λ place n marked.
      let t = slots-first code.methods place n marked in
      subst (λ k. PointsTo code (InSlot (suc place) k) 0) (sym t.3) (this (record { is = t.1 }) t.2);
  fields = λ f marked. absurd (none_marked (length (main_fields code)) f marked);
  this_slots = λ place method is entry.
      let room = (method-formed code code.methods place method formed.methods is).room in
      let marks : List Bool = unmarked (length method.slots) in
      let long : length marks ≡ length method.slots = length-replicate (length method.slots) false in
      ap (λ (m : List Bool). is_marked m 0) (marks_of code.methods place method is ∙ ap (λ b. marked_if b marks) entry) ∙ marked_now marks 0 (omega arith);
  slot_counts = λ place method is. ap (λ (m : List Bool). length m) (marks_of code.methods place method is) ∙ first-length method.entry (length method.slots);
  field_count = length-replicate (length (main_fields code)) false;
}
