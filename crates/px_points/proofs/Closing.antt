-- A pass that changes nothing has found all that points-to has.
use Rattle.std.proofs.Common.{◌≡◌, ℕ, zero, suc, ◌+◌, ◌<◌, Bool, true, false, ◌&&◌, ◌||◌, List, [], ◌∷◌, length, Some, slice_get, refl, sym, ap, ◌∙◌, subst, arith, add-zero}
use Rattle.std.specs.List.{AllByRecursion}
use Rattle.std.proofs.lemmas.List.Elements.{All-from_recursion, All-contains}
use Rattle.std.proofs.lemmas.Option.{same_Some}
use Rattle.px_code.specs.declared.cell.Part.TheVariants.{Field, Elements}
use Rattle.px_code.specs.declared.word.Operand.TheVariants.{Slot}
use Rattle.px_code.specs.declared.word.Word.{Word}
use Rattle.px_code.specs.declared.word.Word.TheVariants as w
use Rattle.px_code.specs.declared.method.Method.{Method}
use Rattle.px_code.specs.declared.method.Tree.{Tree}
use Rattle.px_code.specs.declared.method.Tree.TheVariants.{Do}
use Rattle.px_code.specs.declared.code.Code.{Code}
use Rattle.px_code.specs.CodeRun.{method_at}
use Rattle.px_code.specs.WellFormed.{IsWellFormed, IsMethodOf, IsTreeOf, IsWordOf, main_fields}
use Rattle.px_code.specs.Points.{Place, InSlot, InPart, PointsTo, HasStatement, this, copied, got, put}
use Rattle.px_points.specs.declared.pass.Draft.{Draft}
use Rattle.px_points.specs.Marks.{is_marked, is_open}
use Rattle.px_points.specs.Places.{Places, marks_at, slot_at, slot_points, with_slot, with_field}
use Rattle.px_points.specs.Pass.{after_slot, after_field, after_word, after_tree, after_body, after_methods}
use Rattle.px_points.specs.Analysis.{IsPointsOf}
use Rattle.px_points.proofs.Marking.{same_with_mark, same_with_slot, not_open}
use Rattle.px_points.proofs.Flows.{Holds, StandAt, stand_next, stand_here}

-- ---- marks that a statement asks for

-- the marks are closed under a statement of a method
abbrev pub IsClosed : Places → ℕ → Word → Type 0
IsClosed p m (w.Set to (Slot from)) = slot_points p m from ≡ true → slot_points p m to ≡ true
IsClosed p m (w.Get to (Slot of) class field) = slot_points p m of ≡ true → is_marked p.fields field ≡ true → slot_points p m to ≡ true
IsClosed p m (w.Put (Slot of) class field (Slot value)) = slot_points p m of ≡ true → slot_points p m value ≡ true → is_marked p.fields field ≡ true
IsClosed p m _ = Unit {0}

abbrev pub IsClosedTree : Places → ℕ → Tree → Type 0
IsClosedTree p place (Do node word) = IsClosed p (suc place) word

neither : (a b : Bool) → (a || b) ≡ false → (a ≡ false) × (b ≡ false)
neither false b h = (refl, h)
neither true b h = absurd cc

both_are : (a b : Bool) → a ≡ true → b ≡ true → (a && b) ≡ true
both_are true b h k = k
both_are false b h k = h

-- a draft that more statements didn't change
pub record IsKept (before after : Draft) : Type 0 where
  pub same : after ≡ before
  pub still : before.changed ≡ false

same_draft : (d : Draft) (p : Places) (changed : Bool) → p ≡ d.points → changed ≡ d.changed → record { points = p; changed = changed } ≡ d
same_draft d p changed e f = ap (λ (q : Places). record { points = q; changed = changed }) e ∙ ap (λ (b : Bool). record { points = d.points; changed = b }) f

kept-slot : (follows : Bool) (place n : ℕ) (d : Draft) → (after_slot follows place n d).changed ≡ false → IsKept d (after_slot follows place n d)
kept-slot false place n d still = record { same = refl; still = still }
kept-slot true place n d still =
    let t = neither (is_open (marks_at d.points.slots place) n) d.changed still in
    record { same = same_draft d (with_slot d.points place n) (is_open (marks_at d.points.slots place) n || d.changed) (same_with_slot d.points place n t.0) (still ∙ sym t.1); still = t.1 }

kept-field : (follows : Bool) (n : ℕ) (d : Draft) → (after_field follows n d).changed ≡ false → IsKept d (after_field follows n d)
kept-field false n d still = record { same = refl; still = still }
kept-field true n d still =
    let t = neither (is_open d.points.fields n) d.changed still in
    record { same = same_draft d (with_field d.points n) (is_open d.points.fields n || d.changed) (ap (λ (fields : List Bool). record d.points { fields = fields }) (same_with_mark d.points.fields n t.0)) (still ∙ sym t.1); still = t.1 }

kept-word : (place : ℕ) (word : Word) (d : Draft) → (after_word place word d).changed ≡ false → IsKept d (after_word place word d)
kept-word place (w.Set to (Slot from)) d still = kept-slot (slot_at d.points place from) place to d still
kept-word place (w.Get to (Slot of) class field) d still = kept-slot (slot_at d.points place of && is_marked d.points.fields field) place to d still
kept-word place (w.Put (Slot of) class field (Slot value)) d still = kept-field (slot_at d.points place of && slot_at d.points place value) field d still
kept-word place _ d still = record { same = refl; still = still }

kept-tree : (place : ℕ) (tree : Tree) (d : Draft) → (after_tree place tree d).changed ≡ false → IsKept d (after_tree place tree d)
kept-tree place (Do node word) d still = kept-word place word d still

then_kept : (a b c : Draft) → IsKept b c → (b.changed ≡ false → IsKept a b) → IsKept a c
then_kept a b c k f = let j = f k.still in record { same = k.same ∙ j.same; still = j.still }

kept-body : (place : ℕ) (trees : List Tree) (d : Draft) → (after_body place trees d).changed ≡ false → IsKept d (after_body place trees d)
kept-body place [] d still = record { same = refl; still = still }
kept-body place (tree ∷ trees) d still =
    let next : Draft = after_tree place tree d in
    then_kept d next (after_body place trees next) (kept-body place trees next still) (kept-tree place tree d)

pub kept-methods : (place : ℕ) (methods : List Method) (d : Draft) → (after_methods place methods d).changed ≡ false → IsKept d (after_methods place methods d)
kept-methods place [] d still = record { same = refl; still = still }
kept-methods place (method ∷ methods) d still =
    let next : Draft = after_body place method.body d in
    then_kept d next (after_methods (place + 1) methods next) (kept-methods (place + 1) methods next still) (kept-body place method.body d)

-- a slot that wasn't marked anew was marked
had-slot : (follows : Bool) (place n : ℕ) (d : Draft) → (after_slot follows place n d).changed ≡ false → n < length (marks_at d.points.slots place) → follows ≡ true → slot_at d.points place n ≡ true
had-slot false place n d still room e = absurd cc
had-slot true place n d still room e = not_open (marks_at d.points.slots place) n room (neither (is_open (marks_at d.points.slots place) n) d.changed still).0

had-field : (follows : Bool) (n : ℕ) (d : Draft) → (after_field follows n d).changed ≡ false → n < length d.points.fields → follows ≡ true → is_marked d.points.fields n ≡ true
had-field false n d still room e = absurd cc
had-field true n d still room e = not_open d.points.fields n room (neither (is_open d.points.fields n) d.changed still).0

module _ (code : Code) where
  -- the counts of marks in which a word of a method finds its place
  record HasRoom (p : Places) (place slots : ℕ) : Type 0 where
    slot_count : length (marks_at p.slots place) ≡ slots
    field_count : length p.fields ≡ length (main_fields code)

  closed-word : (place slots : ℕ) (word : Word) (d : Draft) → IsWordOf code slots word → HasRoom d.points place slots → (after_word place word d).changed ≡ false → IsClosed d.points (suc place) word
  closed-word place slots (w.Set to (Slot from)) d is room still =
      let h = is.0 in let r = room.slot_count in
      had-slot (slot_at d.points place from) place to d still (omega arith)
  closed-word place slots (w.Get to (Slot of) class field) d is room still = λ of_is field_is.
      let h = is.0 in let r = room.slot_count in
      had-slot (slot_at d.points place of && is_marked d.points.fields field) place to d still (omega arith) (both_are (slot_at d.points place of) (is_marked d.points.fields field) of_is field_is)
  closed-word place slots (w.Put (Slot of) class field (Slot value)) d is room still = λ of_is value_is.
      let h = is.2.1 in let r = room.field_count in
      had-field (slot_at d.points place of && slot_at d.points place value) field d still (omega arith) (both_are (slot_at d.points place of) (slot_at d.points place value) of_is value_is)
  closed-word place slots _ d is room still = tt

  closed-tree : (place slots : ℕ) (tree : Tree) (d : Draft) → IsTreeOf code slots tree → HasRoom d.points place slots → (after_tree place tree d).changed ≡ false → IsClosedTree d.points place tree
  closed-tree place slots (Do node word) d is room still = closed-word place slots word d is room still

  closed-body : (place slots : ℕ) (trees : List Tree) (d : Draft) → AllByRecursion (IsTreeOf code slots) trees → HasRoom d.points place slots → (after_body place trees d).changed ≡ false → AllByRecursion (IsClosedTree d.points place) trees
  closed-body place slots [] d is room still = tt
  closed-body place slots (tree ∷ trees) d is room still =
      let next = (kept-body place trees (after_tree place tree d) still).still in
      let same = (kept-tree place tree d next).same in
      (closed-tree place slots tree d is.0 room next, closed-body place slots trees d is.1 room (ap (λ (e : Draft). (after_body place trees e).changed) (sym same) ∙ still))

  -- the marks are closed under the statements of methods
  abbrev pub AreClosed : Places → ℕ → List Method → Type 0
  AreClosed p place methods = (k : ℕ) (method : Method) → slice_get methods k ≡ Some method → AllByRecursion (IsClosedTree p (k + place)) method.body

  closed-methods : (place : ℕ) (methods : List Method) (d : Draft) → AllByRecursion (IsMethodOf code) methods → StandAt code place methods → Holds code d.points → (after_methods place methods d).changed ≡ false → AreClosed d.points place methods
  closed-methods place [] d formed at holds still zero other is = absurd cc
  closed-methods place [] d formed at holds still (suc k) other is = absurd cc
  closed-methods place (method ∷ methods) d formed at holds still zero other is =
      let next = (kept-methods (place + 1) methods (after_body place method.body d) still).still in
      let room : HasRoom d.points place (length method.slots) = record { slot_count = holds.slot_counts place method (stand_here code place method methods at).is; field_count = holds.field_count } in
      let here : AllByRecursion (IsClosedTree d.points place) method.body = closed-body place (length method.slots) method.body d formed.0.words room next in
      let e : place ≡ 0 + place = omega arith in
      subst (λ n. AllByRecursion (IsClosedTree d.points n) other.body) e (subst (λ (m : Method). AllByRecursion (IsClosedTree d.points place) m.body) (same_Some method other is) here)
  closed-methods place (method ∷ methods) d formed at holds still (suc k) other is =
      let next = (kept-methods (place + 1) methods (after_body place method.body d) still).still in
      let same = (kept-body place method.body d next).same in
      let rest : (after_methods (place + 1) methods d).changed ≡ false = ap (λ (e : Draft). (after_methods (place + 1) methods e).changed) (sym same) ∙ still in
      let later = closed-methods (place + 1) methods d formed.1 (stand_next code place method methods at) holds rest k other is in
      let e : k + (place + 1) ≡ suc k + place = omega arith in
      subst (λ n. AllByRecursion (IsClosedTree d.points n) other.body) e later

  -- ---- closed marks have all that points-to has

  abbrev pub IsMarkedPlace : Places → Place → Type 0
  IsMarkedPlace p (InSlot m n) = slot_points p m n ≡ true
  IsMarkedPlace p (InPart s (Field f)) = is_marked p.fields f ≡ true
  IsMarkedPlace p (InPart s Elements) = Unit {0}

  module _ (p : Places) (holds : Holds code p) (closed : AreClosed p 0 code.methods) where
    closed-at : (m node : ℕ) (word : Word) → HasStatement code m node word → IsClosed p m word
    closed-at zero node word has = absurd (let h = has.is.is in cc)
    closed-at (suc place) node word has =
        let all = closed place has.method has.is.is in
        let here : IsClosed p (suc (place + 0)) word = All-contains (IsClosedTree p (place + 0)) has.method.body (Do node word) (All-from_recursion (IsClosedTree p (place + 0)) has.method.body all) has.has in
        subst (λ n. IsClosed p (suc n) word) (add-zero place) here

    this-marked : (m : ℕ) (method : Method) → method_at code.methods m ≡ Some method → method.entry ≡ true → slot_points p m 0 ≡ true
    this-marked zero method is entry = absurd cc
    this-marked (suc place) method is entry = holds.this_slots place method is entry

    complete : (place : Place) (site : ℕ) → PointsTo code place site → IsMarkedPlace p place
    complete place site (this {m} {method} is entry) = this-marked m method is.is entry
    complete place site (copied {m} {node} {to} {from} {s} has of) = closed-at m node (w.Set to (Slot from)) has (complete (InSlot m from) s of)
    complete place site (got {m} {node} {to} {of} {class} {field} {s} {t} has of_points part) = closed-at m node (w.Get to (Slot of) class field) has (complete (InSlot m of) s of_points) (complete (InPart s (Field field)) t part)
    complete place site (put {m} {node} {of} {class} {field} {value} {s} {t} has of_points value_points) = closed-at m node (w.Put (Slot of) class field (Slot value)) has (complete (InSlot m of) s of_points) (complete (InSlot m value) t value_points)

    slot-points : (m n : ℕ) → slot_points p m n ≡ true → PointsTo code (InSlot m n) 0
    slot-points zero n marked = absurd cc
    slot-points (suc place) n marked = holds.slots place n marked

    exact : IsPointsOf code p
    exact = record {
      slots = λ m n. (slot-points m n, complete (InSlot m n) 0);
      fields = λ f. (holds.fields f, complete (InPart 0 (Field f)) 0);
    }

-- ---- the passes

pub is_points_of : (code : Code) (p : Places) → IsWellFormed code → Holds code p → (after_methods 0 code.methods (record { points = p; changed = false })).changed ≡ false → IsPointsOf code (after_methods 0 code.methods (record { points = p; changed = false })).points
is_points_of code p formed holds still =
    let d : Draft = record { points = p; changed = false } in
    let same = (kept-methods 0 code.methods d still).same in
    let at : StandAt code 0 code.methods = λ k method is. ap (λ n. slice_get code.methods n) (add-zero k) ∙ is in
    subst (λ (e : Draft). IsPointsOf code e.points) (sym same) (exact code p holds (closed-methods code 0 code.methods d formed.methods at holds still))
