-- The lists of edges by node are built.
use Rattle.std.proofs.Common.{◌≡◌, ℕ, zero, suc, nat_eq, Bool, true, false, List, [], ◌∷◌, ◌++◌, length, replicate, Option, Some, None, slice_get, if◌then◌else◌, refl, sym, ap, ◌∙◌, ⊎_elim}
use Rattle.std.proofs.lemmas.Bool.{eqb-true, eqb-false}
use Rattle.std.proofs.lemmas.Option.{same_Some}
use Rattle.px_code.specs.Places.{numbered}
use Rattle.px_graph.specs.declared.edge.Edge.{Edge}
use Rattle.px_choose.specs.Placements.{set_number}
use Rattle.px_choose.specs.Gains.{number_of, differ, touches, edges_at, pushed_to, pushed, with_edge, with_edges}
use Rattle.px_choose.specs.Kept.{AreLists}
use Rattle.px_choose.proofs.Numbered.{number_length, number_other, number_here}

pushed_length : (m : ℕ) (e : Edge) (ess : List (List Edge)) → length (pushed m e ess) ≡ length ess
pushed_length m e ess = by (numbered ess m)
  where
    by : (o : Option (List Edge)) → length (pushed_to o m e ess) ≡ length ess
    by None = refl
    by (Some es) = number_length ess m (es ++ e ∷ [])

one_length : (e : Edge) (ess : List (List Edge)) → length (with_edge e ess) ≡ length ess
one_length e ess = by (nat_eq (number_of e.from) e.to)
  where
    by : (b : Bool) → length (if b then ess else pushed (number_of e.from) e (pushed e.to e ess)) ≡ length ess
    by true = refl
    by false = pushed_length (number_of e.from) e (pushed e.to e ess) ∙ pushed_length e.to e ess

pub edges_length : (es : List Edge) (ess : List (List Edge)) → length (with_edges es ess) ≡ length ess
edges_length [] ess = refl
edges_length (e ∷ es) ess = edges_length es (with_edge e ess) ∙ one_length e ess

pushed_by : (m n : ℕ) (e : Edge) (ess : List (List Edge)) (xs : List Edge) (o : Option (List Edge)) (b : Bool) → numbered ess m ≡ o → nat_eq m n ≡ b → numbered (pushed_to o m e ess) n ≡ Some xs → (ys : List Edge) × (numbered ess n ≡ Some ys) × (xs ≡ (if b then ys ++ e ∷ [] else ys))
pushed_by m n e ess xs None false h d t = (xs, t, refl)
pushed_by m n e ess xs None true h d t =
    let z : ◌≡◌ {A = Option (List Edge)} None (Some xs) = sym h ∙ ap (λ j. numbered ess j) (eqb-true m n d) ∙ t in cc
pushed_by m n e ess xs (Some es) false h d t = ⊎_elim
    (λ (s : n ≡ m). absurd (eqb-false m n d (sym s)))
    (λ (s : numbered (set_number ess m (es ++ e ∷ [])) n ≡ numbered ess n). (xs, sym s ∙ t, refl))
    (number_other ess m n (es ++ e ∷ []))
pushed_by m n e ess xs (Some es) true h d t =
    let same : m ≡ n = eqb-true m n d in
    let a = number_here ess m (es ++ e ∷ []) es h in
    let b : numbered (set_number ess m (es ++ e ∷ [])) m ≡ Some xs = ap (λ j. numbered (set_number ess m (es ++ e ∷ [])) j) same ∙ t in
    (es, ap (λ j. numbered ess j) (sym same) ∙ h, sym (same_Some (es ++ e ∷ []) xs (sym a ∙ b)))

pushed_at : (m n : ℕ) (e : Edge) (ess : List (List Edge)) (xs : List Edge) → numbered (pushed m e ess) n ≡ Some xs → (ys : List Edge) × (numbered ess n ≡ Some ys) × (xs ≡ (if nat_eq m n then ys ++ e ∷ [] else ys))
pushed_at m n e ess xs t = pushed_by m n e ess xs (numbered ess m) (nat_eq m n) refl refl t

abbrev added : Bool → Edge → List Edge → List Edge
added b e ys = if b then ys ++ e ∷ [] else ys

differ_self : (b : Bool) → differ b b ≡ false
differ_self true = refl
differ_self false = refl

added_two : (a b : Bool) (e : Edge) (ys : List Edge) → (a ≡ true → b ≡ true → ⊥) → added a e (added b e ys) ≡ added (differ a b) e ys
added_two true true e ys h = absurd (h refl refl)
added_two true false e ys h = refl
added_two false true e ys h = refl
added_two false false e ys h = refl

one_by : (e : Edge) (ess : List (List Edge)) (n : ℕ) (xs : List Edge) (b : Bool) → nat_eq (number_of e.from) e.to ≡ b → numbered (if b then ess else pushed (number_of e.from) e (pushed e.to e ess)) n ≡ Some xs → (ys : List Edge) × (numbered ess n ≡ Some ys) × (xs ≡ added (touches n e) e ys)
one_by e ess n xs true d t =
    let x : touches n e ≡ false = ap (λ j. differ (nat_eq j n) (nat_eq e.to n)) (eqb-true (number_of e.from) e.to d) ∙ differ_self (nat_eq e.to n) in
    (xs, t, ap (λ (b : Bool). added b e xs) (sym x))
one_by e ess n xs false d t =
    let u = pushed_at (number_of e.from) n e (pushed e.to e ess) xs t in
    let v = pushed_at e.to n e ess u.0 u.1 in
    let apart : nat_eq (number_of e.from) n ≡ true → nat_eq e.to n ≡ true → ⊥ = λ f g. eqb-false (number_of e.from) e.to d (eqb-true (number_of e.from) n f ∙ sym (eqb-true e.to n g)) in
    (v.0, v.1, u.2 ∙ ap (λ (ys : List Edge). added (nat_eq (number_of e.from) n) e ys) v.2 ∙ added_two (nat_eq (number_of e.from) n) (nat_eq e.to n) e v.0 apart)

append_assoc : (xs ys zs : List Edge) → (xs ++ ys) ++ zs ≡ xs ++ (ys ++ zs)
append_assoc [] ys zs = refl
append_assoc (x ∷ xs) ys zs = ap (λ rs. x ∷ rs) (append_assoc xs ys zs)

append_nil : (xs : List Edge) → xs ++ [] ≡ xs
append_nil [] = refl
append_nil (x ∷ xs) = ap (λ rs. x ∷ rs) (append_nil xs)

added_more : (b : Bool) (e : Edge) (ys zs : List Edge) → added b e ys ++ zs ≡ ys ++ (if b then e ∷ zs else zs)
added_more true e ys zs = append_assoc ys (e ∷ []) zs
added_more false e ys zs = refl

pub listed : (es : List Edge) (ess : List (List Edge)) (n : ℕ) (xs : List Edge) → numbered (with_edges es ess) n ≡ Some xs → (ys : List Edge) × (numbered ess n ≡ Some ys) × (xs ≡ ys ++ edges_at n es)
listed [] ess n xs t = (xs, t, sym (append_nil xs))
listed (e ∷ es) ess n xs t =
    let u = listed es (with_edge e ess) n xs t in
    let v = one_by e ess n u.0 (nat_eq (number_of e.from) e.to) refl u.1 in
    (v.0, v.1, u.2 ∙ ap (λ (ys : List Edge). ys ++ edges_at n es) v.2 ∙ added_more (touches n e) e v.0 (edges_at n es))

copies_length : (k : ℕ) → length (replicate {A = List Edge} k []) ≡ k
copies_length zero = refl
copies_length (suc k) = ap suc (copies_length k)

copies_get : (k i : ℕ) (xs : List Edge) → slice_get (replicate k []) i ≡ Some xs → xs ≡ []
copies_get zero i xs h = cc
copies_get (suc k) zero xs h = sym (same_Some [] xs h)
copies_get (suc k) (suc i) xs h = copies_get k i xs h

copies_number : (k n : ℕ) (xs : List Edge) → numbered (replicate k []) n ≡ Some xs → xs ≡ []
copies_number k zero xs h = cc
copies_number k (suc n) xs h = copies_get k n xs h

-- the lists that are built are those of the graph
pub built : (E : List Edge) (size : ℕ) (lists : List (List Edge)) → lists ≡ with_edges E (replicate size []) → AreLists E size lists
built E size lists e = record {
  length = ap (λ (r : List (List Edge)). length r) e ∙ edges_length E (replicate size []) ∙ copies_length size;
  each = λ n xs h.
      let u = listed E (replicate size []) n xs (ap (λ (r : List (List Edge)). numbered r n) (sym e) ∙ h) in
      u.2 ∙ ap (λ (ys : List Edge). ys ++ edges_at n E) (copies_number size n u.0 u.1);
}

pub own_size : (E : List Edge) (size : ℕ) (lists : List (List Edge)) → AreLists E size lists → AreLists E (length lists) lists
own_size E size lists A = record { length = refl; each = A.each }
