-- Lists that are read by place.
use Rattle.std.proofs.Common.{◌≡◌, ℕ, zero, suc, List, [], ◌∷◌, ◌++◌, length, Some, slice_get, slice_set, refl, ap, ◌⊎◌, inl, inr, ⊎_elim}
use Rattle.std.proofs.lemmas.Option.{same_Some}
use Rattle.px_constraints.specs.System.{At}

pub at_end : {A : Type 0} (xs : List A) (x : A) (k : ℕ) (y : A) → slice_get (xs ++ x ∷ []) k ≡ Some y → (slice_get xs k ≡ Some y) ⊎ (x ≡ y)
at_end [] x zero y h = inr (same_Some x y h)
at_end [] x (suc k) y h = cc
at_end (z ∷ xs) x zero y h = inl h
at_end (z ∷ xs) x (suc k) y h = at_end xs x k y h

pub in_end : {A : Type 0} (xs : List A) (x y : A) → At (xs ++ x ∷ []) y → At xs y ⊎ (x ≡ y)
in_end xs x y h = ⊎_elim (λ (t : slice_get xs h.0 ≡ Some y). inl (h.0, t)) inr (at_end xs x h.0 y h.1)

still_get : {A : Type 0} (xs ys : List A) (k : ℕ) (y : A) → slice_get xs k ≡ Some y → slice_get (xs ++ ys) k ≡ Some y
still_get [] ys k y h = cc
still_get (z ∷ xs) ys zero y h = h
still_get (z ∷ xs) ys (suc k) y h = still_get xs ys k y h

pub still_in : {A : Type 0} (xs ys : List A) (y : A) → At xs y → At (xs ++ ys) y
still_in xs ys y h = (h.0, still_get xs ys h.0 y h.1)

last_get : {A : Type 0} (xs : List A) (x : A) → slice_get (xs ++ x ∷ []) (length xs) ≡ Some x
last_get [] x = refl
last_get (z ∷ xs) x = last_get xs x

pub in_last : {A : Type 0} (xs : List A) (x : A) → At (xs ++ x ∷ []) x
in_last xs x = (length xs, last_get xs x)

pub in_none : {A : Type 0} (x : A) → At [] x → ⊥
in_none x h = cc

-- what stands after a write was written there, or stood there before
pub set_cases : {A : Type 0} (xs : List A) (x : ℕ) (v u : A) → slice_get xs x ≡ Some v → (y : ℕ) → ((y ≡ x) × (slice_get (slice_set xs x u) y ≡ Some u)) ⊎ (slice_get (slice_set xs x u) y ≡ slice_get xs y)
set_cases [] x v u h y = cc
set_cases (z ∷ xs) zero v u h zero = inl (refl, refl)
set_cases (z ∷ xs) zero v u h (suc y) = inr refl
set_cases (z ∷ xs) (suc x) v u h zero = inr refl
set_cases (z ∷ xs) (suc x) v u h (suc y) = ⊎_elim (λ (t : (y ≡ x) × (slice_get (slice_set xs x u) y ≡ Some u)). inl (ap suc t.0, t.1)) inr (set_cases xs x v u h y)

pub set_here : {A : Type 0} (xs : List A) (x : ℕ) (v u : A) → slice_get xs x ≡ Some v → slice_get (slice_set xs x u) x ≡ Some u
set_here [] x v u h = cc
set_here (z ∷ xs) zero v u h = refl
set_here (z ∷ xs) (suc x) v u h = set_here xs x v u h

pub length-slice_set : {A : Type 0} (xs : List A) (i : ℕ) (x : A) → length (slice_set xs i x) ≡ length xs
length-slice_set [] i x = refl
length-slice_set (y ∷ xs) zero x = refl
length-slice_set (y ∷ xs) (suc i) x = ap suc (length-slice_set xs i x)
