-- Constraints, grouped by variable.
use Rattle.std.proofs.Common.{◌≡◌, ◌<◌, ℕ, zero, suc, List, [], ◌∷◌, ◌++◌, length, replicate, Option, Some, None, slice_get, slice_set, refl, sym, ap, ◌∙◌, ◌⊎◌, inl, inr, ⊎_elim, subst, arith, append_assoc, append-nil}
use Rattle.std.proofs.lemmas.Option.{same_Some}
use Rattle.std.proofs.lemmas.List.{length-replicate}
use Rattle.px_constraints.specs.declared.facts.Fact.{Fact}
use Rattle.px_constraints.specs.declared.system.Look.{Look}
use Rattle.px_constraints.specs.declared.system.Constraint.{Constraint}
use Rattle.px_constraints.specs.declared.system.Constraint.TheVariants.{Start, Copies, Loads, Stores}
use Rattle.px_constraints.specs.Systems.{System, pushed_at, pushed, with_constraint, with_constraints, no_constraints}
use Rattle.px_constraints.specs.System.{At, at_list}
use Rattle.px_flow_points.specs.Laws.{Both, Groups}

-- ---- lists

none_in : {A : Type 0} (x : A) → At [] x → ⊥
none_in x h = cc

pub in_rest : {A : Type 0} (y : A) (xs : List A) (x : A) → At xs x → At (y ∷ xs) x
in_rest y xs x h = (suc h.0, h.1)

pub in_cases : {A : Type 0} (y : A) (xs : List A) (x : A) → At (y ∷ xs) x → (y ≡ x) ⊎ At xs x
in_cases y xs x (zero, h) = inl (same_Some y x h)
in_cases y xs x (suc k, h) = inr (k, h)

pub in_append : {A : Type 0} (xs ys : List A) (x : A) → At (xs ++ ys) x → At xs x ⊎ At ys x
in_append [] ys x h = inr h
in_append (z ∷ xs) ys x h = ⊎_elim (λ (e : z ≡ x). inl (zero, ap (λ (w : _). Some w) e)) (λ (t : At (xs ++ ys) x). ⊎_elim (λ (u : At xs x). inl (in_rest z xs x u)) inr (in_append xs ys x t)) (in_cases z (xs ++ ys) x h)

pub in_left : {A : Type 0} (xs ys : List A) (x : A) → At xs x → At (xs ++ ys) x
in_left [] ys x h = absurd (none_in x h)
in_left (z ∷ xs) ys x (zero, h) = (zero, h)
in_left (z ∷ xs) ys x (suc k, h) = in_rest z (xs ++ ys) x (in_left xs ys x (k, h))

pub in_right : {A : Type 0} (xs ys : List A) (x : A) → At ys x → At (xs ++ ys) x
in_right [] ys x h = h
in_right (z ∷ xs) ys x h = in_rest z (xs ++ ys) x (in_right xs ys x h)

-- ---- pairs of a variable and what is pushed there

abbrev Pair : Type 0 → Type 0
Pair A = ℕ × A

abbrev pushes : {A : Type 0} → List (Pair A) → List (List A) → List (List A)
pushes [] xss = xss
pushes (p ∷ ps) xss = pushes ps (pushed p.0 p.1 xss)

pushed_here : {A : Type 0} (xss : List (List A)) (x : ℕ) (y : A) → x < length xss → at_list (pushed x y xss) x ≡ at_list xss x ++ y ∷ []
pushed_here [] x y h = absurd (omega arith)
pushed_here (xs ∷ xss) zero y h = refl
pushed_here (xs ∷ xss) (suc x) y h = pushed_deep xs xss x y ∙ pushed_here xss x y (omega arith)
  where
    deep : {A : Type 0} (xs : List A) (xss : List (List A)) (x : ℕ) (y : A) (o : Option (List A)) → at_list (pushed_at o (suc x) y (xs ∷ xss)) (suc x) ≡ at_list (pushed_at o x y xss) x
    deep xs xss x y None = refl
    deep xs xss x y (Some z) = refl

    pushed_deep : {A : Type 0} (xs : List A) (xss : List (List A)) (x : ℕ) (y : A) → at_list (pushed (suc x) y (xs ∷ xss)) (suc x) ≡ at_list (pushed x y xss) x
    pushed_deep xs xss x y = deep xs xss x y (slice_get xss x)

pushed_other : {A : Type 0} (xss : List (List A)) (x k : ℕ) (y : A) → (k ≡ x) ⊎ (at_list (pushed x y xss) k ≡ at_list xss k)
pushed_other [] x k y = inr refl
pushed_other (xs ∷ xss) zero zero y = inl refl
pushed_other (xs ∷ xss) zero (suc k) y = inr refl
pushed_other (xs ∷ xss) (suc x) zero y = inr (deep xs xss x y (slice_get xss x))
  where
    deep : {A : Type 0} (xs : List A) (xss : List (List A)) (x : ℕ) (y : A) (o : Option (List A)) → at_list (pushed_at o (suc x) y (xs ∷ xss)) 0 ≡ xs
    deep xs xss x y None = refl
    deep xs xss x y (Some z) = refl
pushed_other (xs ∷ xss) (suc x) (suc k) y = ⊎_elim (λ (e : k ≡ x). inl (ap suc e)) (λ (e : at_list (pushed x y xss) k ≡ at_list xss k). inr (deep xs xss x k y (slice_get xss x) ∙ e)) (pushed_other xss x k y)
  where
    deep : {A : Type 0} (xs : List A) (xss : List (List A)) (x k : ℕ) (y : A) (o : Option (List A)) → at_list (pushed_at o (suc x) y (xs ∷ xss)) (suc k) ≡ at_list (pushed_at o x y xss) k
    deep xs xss x k y None = refl
    deep xs xss x k y (Some z) = refl

pushed_size : {A : Type 0} (xss : List (List A)) (x : ℕ) (y : A) → length (pushed x y xss) ≡ length xss
pushed_size xss x y = by xss x y (slice_get xss x)
  where
    set_size : {B : Type 0} (xs : List B) (i : ℕ) (x : B) → length (slice_set xs i x) ≡ length xs
    set_size [] i x = refl
    set_size (y ∷ xs) zero x = refl
    set_size (y ∷ xs) (suc i) x = ap suc (set_size xs i x)

    by : {A : Type 0} (xss : List (List A)) (x : ℕ) (y : A) (o : Option (List A)) → length (pushed_at o x y xss) ≡ length xss
    by xss x y None = refl
    by xss x y (Some xs) = set_size xss x (xs ++ y ∷ [])

pushes_to : {A : Type 0} (ps : List (Pair A)) (xss : List (List A)) (x : ℕ) (y : A) → x < length xss → At (at_list (pushes ps xss) x) y → At (at_list xss x) y ⊎ At ps (x, y)
pushes_to [] xss x y h at = inl at
pushes_to {A} (p ∷ ps) xss x y h at = ⊎_elim
    (λ (t : At (at_list (pushed p.0 p.1 xss) x) y). ⊎_elim
    (λ (e : x ≡ p.0). ⊎_elim
    (λ (u : At (at_list xss p.0) y). inl (subst (λ j. At (at_list xss j) y) (sym e) u))
    (λ (u : At (p.1 ∷ []) y). ⊎_elim
    (λ (q : p.1 ≡ y). inr (zero, same_pair p x y e q))
    (λ (q : At [] y). absurd (none_in y q))
    (in_cases p.1 [] y u))
    (in_append (at_list xss p.0) (p.1 ∷ []) y (subst (λ (zs : List A). At zs y) (pushed_here xss p.0 p.1 (subst (λ j. j < length xss) e h)) (subst (λ j. At (at_list (pushed p.0 p.1 xss) j) y) e t))))
    (λ (e : at_list (pushed p.0 p.1 xss) x ≡ at_list xss x). inl (subst (λ (zs : List A). At zs y) e t))
    (pushed_other xss p.0 x p.1))
    (λ (t : At ps (x, y)). inr (in_rest p ps (x, y) t))
    (pushes_to ps (pushed p.0 p.1 xss) x y (let s = pushed_size xss p.0 p.1 in omega (arith, s)) at)
  where
    same_pair : {A : Type 0} (p : Pair A) (x : ℕ) (y : A) → x ≡ p.0 → p.1 ≡ y → ◌≡◌ {A = Option (Pair A)} (Some p) (Some (x, y))
    same_pair p x y e q = ap (λ j. let z : Pair _ = (j, p.1) in Some z) (sym e) ∙ ap (λ w. let z : Pair _ = (x, w) in Some z) q

pushes_kept : {A : Type 0} (ps : List (Pair A)) (xss : List (List A)) (x : ℕ) (y : A) → At (at_list xss x) y → x < length xss → At (at_list (pushes ps xss) x) y
pushes_kept [] xss x y at h = at
pushes_kept {A} (p ∷ ps) xss x y at h = pushes_kept ps (pushed p.0 p.1 xss) x y
    (⊎_elim
    (λ (e : x ≡ p.0). subst (λ j. At (at_list (pushed p.0 p.1 xss) j) y) (sym e) (subst (λ (zs : List A). At zs y) (sym (pushed_here xss p.0 p.1 (subst (λ j. j < length xss) e h))) (in_left (at_list xss p.0) (p.1 ∷ []) y (subst (λ j. At (at_list xss j) y) e at))))
    (λ (e : at_list (pushed p.0 p.1 xss) x ≡ at_list xss x). subst (λ (zs : List A). At zs y) (sym e) at)
    (pushed_other xss p.0 x p.1))
    (let s = pushed_size xss p.0 p.1 in omega (arith, s))

pushes_have : {A : Type 0} (ps : List (Pair A)) (xss : List (List A)) (x : ℕ) (y : A) → x < length xss → At ps (x, y) → At (at_list (pushes ps xss) x) y
pushes_have [] xss x y h at = absurd (none_in (x, y) at)
pushes_have {A} (p ∷ ps) xss x y h at = ⊎_elim
    (λ (e : p ≡ (x, y)).
    let s = pushed_size xss p.0 p.1 in
    let ex : p.0 ≡ x = ap (λ (q : Pair A). q.0) e in
    let ey : p.1 ≡ y = ap (λ (q : Pair A). q.1) e in
    pushes_kept ps (pushed p.0 p.1 xss) x y (subst (λ j. At (at_list (pushed p.0 p.1 xss) j) y) ex (subst (λ w. At (at_list (pushed p.0 p.1 xss) p.0) w) ey (subst (λ (zs : List A). At zs p.1) (sym (pushed_here xss p.0 p.1 (subst (λ j. j < length xss) (sym ex) h))) (in_right (at_list xss p.0) (p.1 ∷ []) p.1 (zero, refl))))) (omega (arith, s)))
    (λ (t : At ps (x, y)). pushes_have ps (pushed p.0 p.1 xss) x y (let s = pushed_size xss p.0 p.1 in omega (arith, s)) t)
    (in_cases p ps (x, y) at)

pushes_size : {A : Type 0} (ps : List (Pair A)) (xss : List (List A)) → length (pushes ps xss) ≡ length xss
pushes_size [] xss = refl
pushes_size (p ∷ ps) xss = pushes_size ps (pushed p.0 p.1 xss) ∙ pushed_size xss p.0 p.1

empty_lists : {A : Type 0} (n x : ℕ) (y : A) → At (at_list (replicate n []) x) y → ⊥
empty_lists zero x y h = none_in y h
empty_lists (suc n) zero y h = none_in y h
empty_lists (suc n) (suc x) y h = empty_lists n x y h

-- ---- of which constraint

start_of : List Constraint → List Fact
start_of [] = []
start_of (Start f ∷ ks) = f ∷ start_of ks
start_of (Copies x y ∷ ks) = start_of ks
start_of (Loads x l ∷ ks) = start_of ks
start_of (Stores x l ∷ ks) = start_of ks

copy_pairs : List Constraint → List (Pair ℕ)
copy_pairs [] = []
copy_pairs (Start f ∷ ks) = copy_pairs ks
copy_pairs (Copies a b ∷ ks) = (a, b) ∷ copy_pairs ks
copy_pairs (Loads a b ∷ ks) = copy_pairs ks
copy_pairs (Stores a b ∷ ks) = copy_pairs ks

copy_to : (ks : List Constraint) (x : ℕ) (y : ℕ) → At (copy_pairs ks) (x, y) → At ks (Copies x y)
unfolding copy_pairs
copy_to [] x y h = absurd (none_in (x, y) h)
copy_to (Start f ∷ ks) x y h = in_rest (Start f) ks (Copies x y) (copy_to ks x y h)
copy_to (Copies a b ∷ ks) x y h = ⊎_elim (λ (e : ◌≡◌ {A = Pair ℕ} (a, b) (x, y)). (zero, ap (λ (q : Pair ℕ). Some (Copies q.0 q.1)) e)) (λ (t : At (copy_pairs ks) (x, y)). in_rest (Copies a b) ks (Copies x y) (copy_to ks x y t)) (in_cases (a, b) (copy_pairs ks) (x, y) h)
copy_to (Loads a b ∷ ks) x y h = in_rest (Loads a b) ks (Copies x y) (copy_to ks x y h)
copy_to (Stores a b ∷ ks) x y h = in_rest (Stores a b) ks (Copies x y) (copy_to ks x y h)

copy_back : (ks : List Constraint) (x : ℕ) (y : ℕ) → At ks (Copies x y) → At (copy_pairs ks) (x, y)
unfolding copy_pairs
copy_back [] x y h = absurd (none_in (Copies x y) h)
copy_back (Start f ∷ ks) x y h = ⊎_elim (λ (e : Start f ≡ Copies x y). cc) (λ (t : At ks (Copies x y)). copy_back ks x y t) (in_cases (Start f) ks (Copies x y) h)
copy_back (Copies a b ∷ ks) x y h = ⊎_elim (λ (e : Copies a b ≡ Copies x y). let p : a ≡ x = cc in let q : b ≡ y = cc in (zero, ap (λ j. let z : Pair ℕ = (j, b) in Some z) p ∙ ap (λ j. let z : Pair ℕ = (x, j) in Some z) q)) (λ (t : At ks (Copies x y)). in_rest (a, b) (copy_pairs ks) (x, y) (copy_back ks x y t)) (in_cases (Copies a b) ks (Copies x y) h)
copy_back (Loads a b ∷ ks) x y h = ⊎_elim (λ (e : Loads a b ≡ Copies x y). cc) (λ (t : At ks (Copies x y)). copy_back ks x y t) (in_cases (Loads a b) ks (Copies x y) h)
copy_back (Stores a b ∷ ks) x y h = ⊎_elim (λ (e : Stores a b ≡ Copies x y). cc) (λ (t : At ks (Copies x y)). copy_back ks x y t) (in_cases (Stores a b) ks (Copies x y) h)

copy_is : (ks : List Constraint) (C : System) → (with_constraints ks C).copies ≡ pushes (copy_pairs ks) C.copies
unfolding copy_pairs
copy_is [] C = refl
copy_is (Start f ∷ ks) C = copy_is ks (with_constraint (Start f) C)
copy_is (Copies a b ∷ ks) C = copy_is ks (with_constraint (Copies a b) C)
copy_is (Loads a b ∷ ks) C = copy_is ks (with_constraint (Loads a b) C)
copy_is (Stores a b ∷ ks) C = copy_is ks (with_constraint (Stores a b) C)

load_pairs : List Constraint → List (Pair Look)
load_pairs [] = []
load_pairs (Start f ∷ ks) = load_pairs ks
load_pairs (Copies a b ∷ ks) = load_pairs ks
load_pairs (Loads a b ∷ ks) = (a, b) ∷ load_pairs ks
load_pairs (Stores a b ∷ ks) = load_pairs ks

load_to : (ks : List Constraint) (x : ℕ) (y : Look) → At (load_pairs ks) (x, y) → At ks (Loads x y)
unfolding load_pairs
load_to [] x y h = absurd (none_in (x, y) h)
load_to (Start f ∷ ks) x y h = in_rest (Start f) ks (Loads x y) (load_to ks x y h)
load_to (Copies a b ∷ ks) x y h = in_rest (Copies a b) ks (Loads x y) (load_to ks x y h)
load_to (Loads a b ∷ ks) x y h = ⊎_elim (λ (e : ◌≡◌ {A = Pair Look} (a, b) (x, y)). (zero, ap (λ (q : Pair Look). Some (Loads q.0 q.1)) e)) (λ (t : At (load_pairs ks) (x, y)). in_rest (Loads a b) ks (Loads x y) (load_to ks x y t)) (in_cases (a, b) (load_pairs ks) (x, y) h)
load_to (Stores a b ∷ ks) x y h = in_rest (Stores a b) ks (Loads x y) (load_to ks x y h)

load_back : (ks : List Constraint) (x : ℕ) (y : Look) → At ks (Loads x y) → At (load_pairs ks) (x, y)
unfolding load_pairs
load_back [] x y h = absurd (none_in (Loads x y) h)
load_back (Start f ∷ ks) x y h = ⊎_elim (λ (e : Start f ≡ Loads x y). cc) (λ (t : At ks (Loads x y)). load_back ks x y t) (in_cases (Start f) ks (Loads x y) h)
load_back (Copies a b ∷ ks) x y h = ⊎_elim (λ (e : Copies a b ≡ Loads x y). cc) (λ (t : At ks (Loads x y)). load_back ks x y t) (in_cases (Copies a b) ks (Loads x y) h)
load_back (Loads a b ∷ ks) x y h = ⊎_elim (λ (e : Loads a b ≡ Loads x y). let p : a ≡ x = cc in let q : b ≡ y = cc in (zero, ap (λ j. let z : Pair Look = (j, b) in Some z) p ∙ ap (λ j. let z : Pair Look = (x, j) in Some z) q)) (λ (t : At ks (Loads x y)). in_rest (a, b) (load_pairs ks) (x, y) (load_back ks x y t)) (in_cases (Loads a b) ks (Loads x y) h)
load_back (Stores a b ∷ ks) x y h = ⊎_elim (λ (e : Stores a b ≡ Loads x y). cc) (λ (t : At ks (Loads x y)). load_back ks x y t) (in_cases (Stores a b) ks (Loads x y) h)

load_is : (ks : List Constraint) (C : System) → (with_constraints ks C).loads ≡ pushes (load_pairs ks) C.loads
unfolding load_pairs
load_is [] C = refl
load_is (Start f ∷ ks) C = load_is ks (with_constraint (Start f) C)
load_is (Copies a b ∷ ks) C = load_is ks (with_constraint (Copies a b) C)
load_is (Loads a b ∷ ks) C = load_is ks (with_constraint (Loads a b) C)
load_is (Stores a b ∷ ks) C = load_is ks (with_constraint (Stores a b) C)

store_pairs : List Constraint → List (Pair Look)
store_pairs [] = []
store_pairs (Start f ∷ ks) = store_pairs ks
store_pairs (Copies a b ∷ ks) = store_pairs ks
store_pairs (Loads a b ∷ ks) = store_pairs ks
store_pairs (Stores a b ∷ ks) = (a, b) ∷ store_pairs ks

store_to : (ks : List Constraint) (x : ℕ) (y : Look) → At (store_pairs ks) (x, y) → At ks (Stores x y)
unfolding store_pairs
store_to [] x y h = absurd (none_in (x, y) h)
store_to (Start f ∷ ks) x y h = in_rest (Start f) ks (Stores x y) (store_to ks x y h)
store_to (Copies a b ∷ ks) x y h = in_rest (Copies a b) ks (Stores x y) (store_to ks x y h)
store_to (Loads a b ∷ ks) x y h = in_rest (Loads a b) ks (Stores x y) (store_to ks x y h)
store_to (Stores a b ∷ ks) x y h = ⊎_elim (λ (e : ◌≡◌ {A = Pair Look} (a, b) (x, y)). (zero, ap (λ (q : Pair Look). Some (Stores q.0 q.1)) e)) (λ (t : At (store_pairs ks) (x, y)). in_rest (Stores a b) ks (Stores x y) (store_to ks x y t)) (in_cases (a, b) (store_pairs ks) (x, y) h)

store_back : (ks : List Constraint) (x : ℕ) (y : Look) → At ks (Stores x y) → At (store_pairs ks) (x, y)
unfolding store_pairs
store_back [] x y h = absurd (none_in (Stores x y) h)
store_back (Start f ∷ ks) x y h = ⊎_elim (λ (e : Start f ≡ Stores x y). cc) (λ (t : At ks (Stores x y)). store_back ks x y t) (in_cases (Start f) ks (Stores x y) h)
store_back (Copies a b ∷ ks) x y h = ⊎_elim (λ (e : Copies a b ≡ Stores x y). cc) (λ (t : At ks (Stores x y)). store_back ks x y t) (in_cases (Copies a b) ks (Stores x y) h)
store_back (Loads a b ∷ ks) x y h = ⊎_elim (λ (e : Loads a b ≡ Stores x y). cc) (λ (t : At ks (Stores x y)). store_back ks x y t) (in_cases (Loads a b) ks (Stores x y) h)
store_back (Stores a b ∷ ks) x y h = ⊎_elim (λ (e : Stores a b ≡ Stores x y). let p : a ≡ x = cc in let q : b ≡ y = cc in (zero, ap (λ j. let z : Pair Look = (j, b) in Some z) p ∙ ap (λ j. let z : Pair Look = (x, j) in Some z) q)) (λ (t : At ks (Stores x y)). in_rest (a, b) (store_pairs ks) (x, y) (store_back ks x y t)) (in_cases (Stores a b) ks (Stores x y) h)

store_is : (ks : List Constraint) (C : System) → (with_constraints ks C).stores ≡ pushes (store_pairs ks) C.stores
unfolding store_pairs
store_is [] C = refl
store_is (Start f ∷ ks) C = store_is ks (with_constraint (Start f) C)
store_is (Copies a b ∷ ks) C = store_is ks (with_constraint (Copies a b) C)
store_is (Loads a b ∷ ks) C = store_is ks (with_constraint (Loads a b) C)
store_is (Stores a b ∷ ks) C = store_is ks (with_constraint (Stores a b) C)

start_to : (ks : List Constraint) (g : Fact) → At (start_of ks) g → At ks (Start g)
unfolding start_of
start_to [] g h = absurd (none_in g h)
start_to (Start f ∷ ks) g h = ⊎_elim (λ (e : f ≡ g). (zero, ap (λ (q : Fact). Some (Start q)) e)) (λ (t : At (start_of ks) g). in_rest (Start f) ks (Start g) (start_to ks g t)) (in_cases f (start_of ks) g h)
start_to (Copies a b ∷ ks) g h = in_rest (Copies a b) ks (Start g) (start_to ks g h)
start_to (Loads a b ∷ ks) g h = in_rest (Loads a b) ks (Start g) (start_to ks g h)
start_to (Stores a b ∷ ks) g h = in_rest (Stores a b) ks (Start g) (start_to ks g h)

start_back : (ks : List Constraint) (g : Fact) → At ks (Start g) → At (start_of ks) g
unfolding start_of
start_back [] g h = absurd (none_in (Start g) h)
start_back (Start f ∷ ks) g h = ⊎_elim (λ (e : Start f ≡ Start g). let p : f ≡ g = cc in (zero, ap (λ (q : Fact). Some q) p)) (λ (t : At ks (Start g)). in_rest f (start_of ks) g (start_back ks g t)) (in_cases (Start f) ks (Start g) h)
start_back (Copies a b ∷ ks) g h = ⊎_elim (λ (e : Copies a b ≡ Start g). cc) (λ (t : At ks (Start g)). start_back ks g t) (in_cases (Copies a b) ks (Start g) h)
start_back (Loads a b ∷ ks) g h = ⊎_elim (λ (e : Loads a b ≡ Start g). cc) (λ (t : At ks (Start g)). start_back ks g t) (in_cases (Loads a b) ks (Start g) h)
start_back (Stores a b ∷ ks) g h = ⊎_elim (λ (e : Stores a b ≡ Start g). cc) (λ (t : At ks (Start g)). start_back ks g t) (in_cases (Stores a b) ks (Start g) h)

start_is : (ks : List Constraint) (C : System) → (with_constraints ks C).starts ≡ C.starts ++ start_of ks
unfolding start_of
start_is [] C = sym (append-nil C.starts)
start_is (Start f ∷ ks) C = start_is ks (with_constraint (Start f) C) ∙ append_assoc C.starts (f ∷ []) (start_of ks)
start_is (Copies a b ∷ ks) C = start_is ks (with_constraint (Copies a b) C)
start_is (Loads a b ∷ ks) C = start_is ks (with_constraint (Loads a b) C)
start_is (Stores a b ∷ ks) C = start_is ks (with_constraint (Stores a b) C)

cells_is : (ks : List Constraint) (C : System) → (with_constraints ks C).cells ≡ C.cells
cells_is [] C = refl
cells_is (Start f ∷ ks) C = cells_is ks (with_constraint (Start f) C)
cells_is (Copies a b ∷ ks) C = cells_is ks (with_constraint (Copies a b) C)
cells_is (Loads a b ∷ ks) C = cells_is ks (with_constraint (Loads a b) C)
cells_is (Stores a b ∷ ks) C = cells_is ks (with_constraint (Stores a b) C)

by_pairs : {A : Type 0} (ps : List (Pair A)) (n : ℕ) (xss : List (List A)) (x : ℕ) (y : A) → xss ≡ pushes ps (replicate n []) → x < n → Both (At (at_list xss x) y) (At ps (x, y))
by_pairs {A} ps n xss x y e h =
    let l = length-replicate {A = List A} n [] in
    let below : x < length (replicate {A = List A} n []) = omega (arith, l) in
    record {
      to = λ at. ⊎_elim (λ (t : At (at_list (replicate n []) x) y). absurd (empty_lists n x y t)) (λ (t : At ps (x, y)). t) (pushes_to ps (replicate n []) x y below (subst (λ (z : List (List A)). At (at_list z x) y) e at));
      back = λ at. subst (λ (z : List (List A)). At (at_list z x) y) (sym e) (pushes_have ps (replicate n []) x y below at);
    }

pub groups : Groups
groups ks n cells =
    let C : System = no_constraints n cells in
    record {
      starts = λ f. record { to = λ h. start_to ks f (subst (λ (z : List Fact). At z f) (start_is ks C) h); back = λ h. subst (λ (z : List Fact). At z f) (sym (start_is ks C)) (start_back ks f h) };
      copies = λ x y h. let b = by_pairs (copy_pairs ks) n (with_constraints ks C).copies x y (copy_is ks C) h in record { to = λ at. copy_to ks x y (b.to at); back = λ at. b.back (copy_back ks x y at) };
      loads = λ x y h. let b = by_pairs (load_pairs ks) n (with_constraints ks C).loads x y (load_is ks C) h in record { to = λ at. load_to ks x y (b.to at); back = λ at. b.back (load_back ks x y at) };
      stores = λ x y h. let b = by_pairs (store_pairs ks) n (with_constraints ks C).stores x y (store_is ks C) h in record { to = λ at. store_to ks x y (b.to at); back = λ at. b.back (store_back ks x y at) };
      size = ap (λ (z : List (List ℕ)). length z) (copy_is ks C) ∙ pushes_size (copy_pairs ks) (replicate n []) ∙ length-replicate n [];
      size_loads = ap (λ (z : List (List Look)). length z) (load_is ks C) ∙ pushes_size (load_pairs ks) (replicate n []) ∙ length-replicate n [];
      size_stores = ap (λ (z : List (List Look)). length z) (store_is ks C) ∙ pushes_size (store_pairs ks) (replicate n []) ∙ length-replicate n [];
      cells = cells_is ks C;
    }
