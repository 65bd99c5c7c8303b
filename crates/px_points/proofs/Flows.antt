-- What the marks keep from pass to pass: each is one that points-to has.
use Rattle.std.proofs.Common.{◌≡◌, ℕ, suc, ◌+◌, ◌≤◌, Bool, true, false, ◌&&◌, List, [], ◌∷◌, length, Some, slice_get, Contains, refl, sym, ap, ◌∙◌, subst, ⊎_elim, arith}
use Rattle.std.specs.List.{AllByRecursion}
use Rattle.std.proofs.lemmas.List.Elements.{recursion_from_All, All-contains_itself}
use Rattle.px_code.specs.declared.cell.Part.TheVariants.{Field}
use Rattle.px_code.specs.declared.word.Operand.TheVariants.{Slot}
use Rattle.px_code.specs.declared.word.Word.{Word}
use Rattle.px_code.specs.declared.word.Word.TheVariants as w
use Rattle.px_code.specs.declared.method.Method.{Method}
use Rattle.px_code.specs.declared.method.Tree.{Tree}
use Rattle.px_code.specs.declared.method.Tree.TheVariants.{Do}
use Rattle.px_code.specs.declared.code.Code.{Code}
use Rattle.px_code.specs.WellFormed.{main_fields}
use Rattle.px_code.specs.Points.{PointsTo, InSlot, InPart, IsMethod, HasStatement, copied, got, put}
use Rattle.px_code.proofs.Written.{length-slice_set}
use Rattle.px_points.specs.declared.pass.Draft.{Draft}
use Rattle.px_points.specs.Marks.{is_marked}
use Rattle.px_points.specs.Places.{Places, marks_at, slot_at}
use Rattle.px_points.specs.Pass.{after_slot, after_field, after_word, after_tree, after_body, after_methods}
use Rattle.px_points.proofs.Marking.{slot_at-with_slot, slot_stays, length_stays, is_marked-with_mark, weight, weight-slot, weight-field}

pub both : (a b : Bool) → (a && b) ≡ true → (a ≡ true) × (b ≡ true)
both true b h = (refl, h)
both false b h = absurd cc

-- the methods are those of the code from a place on
abbrev pub StandAt : Code → ℕ → List Method → Type 0
StandAt code place methods = (k : ℕ) (method : Method) → slice_get methods k ≡ Some method → slice_get code.methods (k + place) ≡ Some method

pub stand_next : (code : Code) (place : ℕ) (method : Method) (methods : List Method) → StandAt code place (method ∷ methods) → StandAt code (place + 1) methods
stand_next code place method methods h k other is =
    let e : suc k + place ≡ k + (place + 1) = omega arith in
    ap (λ n. slice_get code.methods n) (sym e) ∙ h (suc k) other is

pub stand_here : (code : Code) (place : ℕ) (method : Method) (methods : List Method) → StandAt code place (method ∷ methods) → IsMethod code (suc place) method
stand_here code place method methods h =
    let e : 0 + place ≡ place = omega arith in
    record { is = ap (λ n. slice_get code.methods n) (sym e) ∙ h 0 method refl }

module _ (code : Code) where
  pub record Holds (p : Places) : Type 0 where
    pub slots : (place n : ℕ) → slot_at p place n ≡ true → PointsTo code (InSlot (suc place) n) 0
    pub fields : (f : ℕ) → is_marked p.fields f ≡ true → PointsTo code (InPart 0 (Field f)) 0
    pub this_slots : (place : ℕ) (method : Method) → slice_get code.methods place ≡ Some method → method.entry ≡ true → slot_at p place 0 ≡ true
    pub slot_counts : (place : ℕ) (method : Method) → slice_get code.methods place ≡ Some method → length (marks_at p.slots place) ≡ length method.slots
    pub field_count : length p.fields ≡ length (main_fields code)

  holds-slot : (follows : Bool) (place n : ℕ) (d : Draft) → (follows ≡ true → PointsTo code (InSlot (suc place) n) 0) → Holds d.points → Holds (after_slot follows place n d).points
  holds-slot false place n d may holds = holds
  holds-slot true place n d may holds = record {
    slots = λ j k marked. ⊎_elim
        (λ (t : (place ≡ j) × (n ≡ k)). subst (λ i. PointsTo code (InSlot (suc i) k) 0) t.0 (subst (λ i. PointsTo code (InSlot (suc place) i) 0) t.1 (may refl)))
        (λ (t : slot_at d.points j k ≡ true). holds.slots j k t)
        (slot_at-with_slot d.points place n j k marked);
    fields = holds.fields;
    this_slots = λ j method is entry. slot_stays d.points place n j 0 (holds.this_slots j method is entry);
    slot_counts = λ j method is. length_stays d.points place n j (length method.slots) (holds.slot_counts j method is);
    field_count = holds.field_count;
  }

  holds-field : (follows : Bool) (n : ℕ) (d : Draft) → (follows ≡ true → PointsTo code (InPart 0 (Field n)) 0) → Holds d.points → Holds (after_field follows n d).points
  holds-field false n d may holds = holds
  holds-field true n d may holds = record {
    slots = holds.slots;
    fields = λ k marked. ⊎_elim
        (λ (t : n ≡ k). subst (λ i. PointsTo code (InPart 0 (Field i)) 0) t (may refl))
        (λ (t : is_marked d.points.fields k ≡ true). holds.fields k t)
        (is_marked-with_mark d.points.fields n k marked);
    this_slots = holds.this_slots;
    slot_counts = holds.slot_counts;
    field_count = length-slice_set d.points.fields n true ∙ holds.field_count;
  }

  -- a draft after more statements
  pub record Follows (before after : Draft) : Type 0 where
    pub holds : Holds before.points → Holds after.points
    pub lighter : weight after ≤ weight before

  stays : (d : Draft) → Follows d d
  stays d = record { holds = λ h. h; lighter = omega arith }

  then_follows : (a b c : Draft) → Follows a b → Follows b c → Follows a c
  then_follows a b c f g = record { holds = λ h. g.holds (f.holds h); lighter = (let x = f.lighter in let y = g.lighter in omega (arith, x, y)) }

  follows-word : (place node : ℕ) (word : Word) (d : Draft) → HasStatement code (suc place) node word → Follows d (after_word place word d)
  follows-word place node (w.Set to (Slot from)) d has = record {
    holds = λ h. holds-slot (slot_at d.points place from) place to d (λ marked. copied has (h.slots place from marked)) h;
    lighter = weight-slot (slot_at d.points place from) place to d;
  }
  follows-word place node (w.Get to (Slot of) class field) d has = record {
    holds = λ h. holds-slot (slot_at d.points place of && is_marked d.points.fields field) place to d
        (λ marked. let b = both (slot_at d.points place of) (is_marked d.points.fields field) marked in got has (h.slots place of b.0) (h.fields field b.1)) h;
    lighter = weight-slot (slot_at d.points place of && is_marked d.points.fields field) place to d;
  }
  follows-word place node (w.Put (Slot of) class field (Slot value)) d has = record {
    holds = λ h. holds-field (slot_at d.points place of && slot_at d.points place value) field d
        (λ marked. let b = both (slot_at d.points place of) (slot_at d.points place value) marked in put has (h.slots place of b.0) (h.slots place value b.1)) h;
    lighter = weight-field (slot_at d.points place of && slot_at d.points place value) field d;
  }
  follows-word place node _ d has = stays d

  follows-tree : (place : ℕ) (method : Method) (tree : Tree) (d : Draft) → IsMethod code (suc place) method → Contains method.body tree → Follows d (after_tree place tree d)
  follows-tree place method (Do node word) d is has = follows-word place node word d (record { method = method; is = is; has = has })

  follows-body : (place : ℕ) (method : Method) (trees : List Tree) (d : Draft) → IsMethod code (suc place) method → AllByRecursion (Contains method.body) trees → Follows d (after_body place trees d)
  follows-body place method [] d is has = stays d
  follows-body place method (tree ∷ trees) d is has =
      let next : Draft = after_tree place tree d in
      then_follows d next (after_body place trees next) (follows-tree place method tree d is has.0) (follows-body place method trees next is has.1)

  pub follows-methods : (place : ℕ) (methods : List Method) (d : Draft) → StandAt code place methods → Follows d (after_methods place methods d)
  follows-methods place [] d at = stays d
  follows-methods place (method ∷ methods) d at =
      let next : Draft = after_body place method.body d in
      let has : AllByRecursion (Contains method.body) method.body = recursion_from_All (Contains method.body) method.body (All-contains_itself method.body) in
      then_follows d next (after_methods (place + 1) methods next)
      (follows-body place method method.body d (stand_here code place method methods at) has)
      (follows-methods (place + 1) methods next (stand_next code place method methods at))
