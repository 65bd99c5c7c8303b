-- What statements read and write is exactly what points-to has for them.
use Rattle.std.proofs.Common.{◌≡◌, ◌<◌, ℕ, zero, suc, [], ◌∷◌, Some, slice_get, refl, subst, arith}
use Rattle.std.proofs.lemmas.Option.{same_Some}
use Rattle.px_constraints.specs.System.{At}
use Rattle.px_constraints.specs.Sets.{Rises}
use Rattle.px_normal.specs.declared.word.Operand.TheVariants.{Slot, Literal}
use Rattle.px_normal.specs.declared.word.Word.{Word}
use Rattle.px_normal.specs.declared.word.Word.TheVariants as w
use Rattle.px_normal.specs.declared.code.Code.{Code}
use Rattle.px_flow_points.specs.declared.part.Part.{Part}
use Rattle.px_flow_points.specs.declared.part.Part.TheVariants.{Elements}
use Rattle.px_flow_points.specs.There.{WordThere, NumbersExist}
use Rattle.px_flow_points.specs.Points.{ReadsPart, WritesPart}
use Rattle.px_flow_points.specs.Points as points
use Rattle.px_flow_points.specs.Exact.{PointsOf, ArePoints}
use Rattle.px_flow_points.specs.Touched.{reads_of, writes_of, part_of_word, AreTouchedByWord}

none_at : (s : ℕ) → At [] s → ⊥
none_at s h = cc

in_one : (x s : ℕ) → At (x ∷ []) s → x ≡ s
in_one x s (zero, h) = same_Some x s h
in_one x s (suc k, h) = cc

none_rises : Rises []
none_rises = record { later = λ j k s t le a b. cc }

one_rises : (x : ℕ) → Rises (x ∷ [])
one_rises x = record { later = by_place }
  where
    by_place : (j k s t : ℕ) → j < k → slice_get (x ∷ []) j ≡ Some s → slice_get (x ∷ []) k ≡ Some t → s < t
    by_place j zero s t le a b = absurd (omega (arith, le))
    by_place j (suc k) s t le a b = cc

module _ (code : Code) (P : PointsOf) (A : ArePoints code P) (m : ℕ) where
  reads_to : (word : Word) (s : ℕ) → WordThere code m word → At (reads_of P m word) s → ReadsPart code m word s (part_of_word word)
  reads_to (w.Set to a) s t h = absurd (none_at s h)
  reads_to (w.Op o to a b) s t h = absurd (none_at s h)
  reads_to (w.Get to (Slot n) class field) s t h = points.ReadsPart.get ((A.slots m n s t.1).to h)
  reads_to (w.Get to (Literal v) class field) s t h = absurd (none_at s h)
  reads_to (w.Put a class field x) s t h = absurd (none_at s h)
  reads_to (w.Load to (Slot n) i) s t h = points.ReadsPart.load ((A.slots m n s t.1).to h)
  reads_to (w.Load to (Literal v) i) s t h = absurd (none_at s h)
  reads_to (w.Store a i x) s t h = absurd (none_at s h)
  reads_to (w.Len to a) s t h = absurd (none_at s h)
  reads_to (w.New to class site) s t h = absurd (none_at s h)
  reads_to (w.Array to element n site) s t h = absurd (none_at s h)
  reads_to (w.Call to of method args) s t h = absurd (none_at s h)
  reads_to (w.Query to statement site params) s t h = absurd (none_at s h)
  reads_to (w.Update to statement params) s t h = absurd (none_at s h)
  reads_to (w.Next to (Slot n)) s t h = points.ReadsPart.next ((A.slots m n s t).to h)
  reads_to (w.Next to (Literal v)) s t h = absurd (none_at s h)
  reads_to (w.Long to (Slot n) i) s t h = points.ReadsPart.long ((A.slots m n s t).to h)
  reads_to (w.Long to (Literal v) i) s t h = absurd (none_at s h)
  reads_to (w.Text to (Slot n) i) s t h = points.ReadsPart.text ((A.slots m n s t).to h)
  reads_to (w.Text to (Literal v) i) s t h = absurd (none_at s h)
  reads_to (w.Print a) s t h = absurd (none_at s h)
  reads_to (w.Return a) s t h = absurd (none_at s h)

  reads_back : (word : Word) (s : ℕ) (part : Part) → WordThere code m word → ReadsPart code m word s part → At (reads_of P m word) s × (part_of_word word ≡ part)
  reads_back word s part t (points.ReadsPart.get {of = n} p) = ((A.slots m n s t.1).back p, refl)
  reads_back word s part t (points.ReadsPart.load {of = n} p) = ((A.slots m n s t.1).back p, refl)
  reads_back word s part t (points.ReadsPart.next {of = n} p) = ((A.slots m n s t).back p, refl)
  reads_back word s part t (points.ReadsPart.long {of = n} p) = ((A.slots m n s t).back p, refl)
  reads_back word s part t (points.ReadsPart.text {of = n} p) = ((A.slots m n s t).back p, refl)

  reads_up : (word : Word) → WordThere code m word → Rises (reads_of P m word)
  reads_up (w.Set to a) t = none_rises
  reads_up (w.Op o to a b) t = none_rises
  reads_up (w.Get to (Slot n) class field) t = A.slots_rise m n t.1
  reads_up (w.Get to (Literal v) class field) t = none_rises
  reads_up (w.Put a class field x) t = none_rises
  reads_up (w.Load to (Slot n) i) t = A.slots_rise m n t.1
  reads_up (w.Load to (Literal v) i) t = none_rises
  reads_up (w.Store a i x) t = none_rises
  reads_up (w.Len to a) t = none_rises
  reads_up (w.New to class site) t = none_rises
  reads_up (w.Array to element n site) t = none_rises
  reads_up (w.Call to of method args) t = none_rises
  reads_up (w.Query to statement site params) t = none_rises
  reads_up (w.Update to statement params) t = none_rises
  reads_up (w.Next to (Slot n)) t = A.slots_rise m n t
  reads_up (w.Next to (Literal v)) t = none_rises
  reads_up (w.Long to (Slot n) i) t = A.slots_rise m n t
  reads_up (w.Long to (Literal v) i) t = none_rises
  reads_up (w.Text to (Slot n) i) t = A.slots_rise m n t
  reads_up (w.Text to (Literal v) i) t = none_rises
  reads_up (w.Print a) t = none_rises
  reads_up (w.Return a) t = none_rises

  writes_to : (word : Word) (s : ℕ) → WordThere code m word → At (writes_of P m word) s → WritesPart code m word s (part_of_word word)
  writes_to (w.Set to a) s t h = absurd (none_at s h)
  writes_to (w.Op o to a b) s t h = absurd (none_at s h)
  writes_to (w.Get to a class field) s t h = absurd (none_at s h)
  writes_to (w.Put (Slot n) class field x) s t h = points.WritesPart.put ((A.slots m n s t.0).to h)
  writes_to (w.Put (Literal v) class field x) s t h = absurd (none_at s h)
  writes_to (w.Load to a i) s t h = absurd (none_at s h)
  writes_to (w.Store (Slot n) i x) s t h = points.WritesPart.store ((A.slots m n s t.0).to h)
  writes_to (w.Store (Literal v) i x) s t h = absurd (none_at s h)
  writes_to (w.Len to a) s t h = absurd (none_at s h)
  writes_to (w.New to class site) s t h = absurd (none_at s h)
  writes_to (w.Array to element n site) s t h = absurd (none_at s h)
  writes_to (w.Call to of method args) s t h = absurd (none_at s h)
  writes_to (w.Query to statement site params) s t h = subst (λ j. WritesPart code m (w.Query to statement site params) j Elements) (in_one site s h) points.WritesPart.query
  writes_to (w.Update to statement params) s t h = absurd (none_at s h)
  writes_to (w.Next to (Slot n)) s t h = points.WritesPart.next ((A.slots m n s t).to h)
  writes_to (w.Next to (Literal v)) s t h = absurd (none_at s h)
  writes_to (w.Long to a i) s t h = absurd (none_at s h)
  writes_to (w.Text to a i) s t h = absurd (none_at s h)
  writes_to (w.Print a) s t h = absurd (none_at s h)
  writes_to (w.Return a) s t h = absurd (none_at s h)

  writes_back : (word : Word) (s : ℕ) (part : Part) → WordThere code m word → WritesPart code m word s part → At (writes_of P m word) s × (part_of_word word ≡ part)
  writes_back word s part t (points.WritesPart.put {of = n} p) = ((A.slots m n s t.0).back p, refl)
  writes_back word s part t (points.WritesPart.store {of = n} p) = ((A.slots m n s t.0).back p, refl)
  writes_back word s part t (points.WritesPart.next {of = n} p) = ((A.slots m n s t).back p, refl)
  writes_back word s part t points.WritesPart.query = ((zero, refl), refl)

  writes_up : (word : Word) → WordThere code m word → Rises (writes_of P m word)
  writes_up (w.Set to a) t = none_rises
  writes_up (w.Op o to a b) t = none_rises
  writes_up (w.Get to a class field) t = none_rises
  writes_up (w.Put (Slot n) class field x) t = A.slots_rise m n t.0
  writes_up (w.Put (Literal v) class field x) t = none_rises
  writes_up (w.Load to a i) t = none_rises
  writes_up (w.Store (Slot n) i x) t = A.slots_rise m n t.0
  writes_up (w.Store (Literal v) i x) t = none_rises
  writes_up (w.Len to a) t = none_rises
  writes_up (w.New to class site) t = none_rises
  writes_up (w.Array to element n site) t = none_rises
  writes_up (w.Call to of method args) t = none_rises
  writes_up (w.Query to statement site params) t = one_rises site
  writes_up (w.Update to statement params) t = none_rises
  writes_up (w.Next to (Slot n)) t = A.slots_rise m n t
  writes_up (w.Next to (Literal v)) t = none_rises
  writes_up (w.Long to a i) t = none_rises
  writes_up (w.Text to a i) t = none_rises
  writes_up (w.Print a) t = none_rises
  writes_up (w.Return a) t = none_rises

pub are_touched : (code : Code) (P : PointsOf) → NumbersExist code → ArePoints code P → AreTouchedByWord code P
are_touched code P E A = record {
  reads = λ m node s word part has. record { to = λ h. subst (λ (p : Part). ReadsPart code m word s p) h.1 (reads_to code P A m word s (E.words has) h.0); back = λ r. reads_back code P A m word s part (E.words has) r };
  writes = λ m node s word part has. record { to = λ h. subst (λ (p : Part). WritesPart code m word s p) h.1 (writes_to code P A m word s (E.words has) h.0); back = λ r. writes_back code P A m word s part (E.words has) r };
  reads_rise = λ m node word has. reads_up code P A m word (E.words has);
  writes_rise = λ m node word has. writes_up code P A m word (E.words has);
}
