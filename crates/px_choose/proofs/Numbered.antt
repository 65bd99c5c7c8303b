-- Lists by numbers from 1: what is read where one was set.
use Rattle.std.proofs.Common.{◌≡◌, ◌≤◌, ◌<◌, ℕ, zero, suc, List, [], ◌∷◌, length, Some, slice_get, slice_set, refl, ap, ◌⊎◌, inl, inr, ⊎_elim, arith}
use Rattle.px_code.specs.Places.{numbered}
use Rattle.px_choose.specs.Placements.{set_number}

pub set_length : {A : Type 0} (xs : List A) (i : ℕ) (x : A) → length (slice_set xs i x) ≡ length xs
set_length [] i x = refl
set_length (y ∷ xs) zero x = refl
set_length (y ∷ xs) (suc i) x = ap suc (set_length xs i x)

set_other : {A : Type 0} (xs : List A) (i k : ℕ) (x : A) → (k ≡ i) ⊎ (slice_get (slice_set xs i x) k ≡ slice_get xs k)
set_other [] i k x = inr refl
set_other (y ∷ xs) zero zero x = inl refl
set_other (y ∷ xs) zero (suc k) x = inr refl
set_other (y ∷ xs) (suc i) zero x = inr refl
set_other (y ∷ xs) (suc i) (suc k) x = ⊎_elim (λ (t : k ≡ i). inl (ap suc t)) inr (set_other xs i k x)

pub number_length : {A : Type 0} (xs : List A) (n : ℕ) (x : A) → length (set_number xs n x) ≡ length xs
number_length xs zero x = refl
number_length xs (suc n) x = set_length xs n x

pub number_other : {A : Type 0} (xs : List A) (n k : ℕ) (x : A) → (k ≡ n) ⊎ (numbered (set_number xs n x) k ≡ numbered xs k)
number_other xs zero k x = inr refl
number_other xs (suc n) zero x = inr refl
number_other xs (suc n) (suc k) x = ⊎_elim (λ (t : k ≡ n). inl (ap suc t)) inr (set_other xs n k x)

pub set_here : {A : Type 0} (xs : List A) (i : ℕ) (x c : A) → slice_get xs i ≡ Some c → slice_get (slice_set xs i x) i ≡ Some x
set_here [] i x c h = cc
set_here (y ∷ xs) zero x c h = refl
set_here (y ∷ xs) (suc i) x c h = set_here xs i x c h

pub number_here : {A : Type 0} (xs : List A) (n : ℕ) (x c : A) → numbered xs n ≡ Some c → numbered (set_number xs n x) n ≡ Some x
number_here xs zero x c h = cc
number_here xs (suc n) x c h = set_here xs n x c h

pub get_in : {A : Type 0} (xs : List A) (i : ℕ) → i < length xs → (c : A) × (slice_get xs i ≡ Some c)
get_in [] i h = absurd (omega arith)
get_in (y ∷ xs) zero h = (y, refl)
get_in (y ∷ xs) (suc i) h = get_in xs i (omega (arith, h))

pub in_get : {A : Type 0} (xs : List A) (i : ℕ) (c : A) → slice_get xs i ≡ Some c → i < length xs
in_get [] i c h = cc
in_get (y ∷ xs) zero c h = omega arith
in_get (y ∷ xs) (suc i) c h = let a = in_get xs i c h in omega (arith, a)

pub number_in : {A : Type 0} (xs : List A) (n : ℕ) → 0 < n → n ≤ length xs → (c : A) × (numbered xs n ≡ Some c)
number_in xs zero h k = absurd (omega arith)
number_in xs (suc n) h k = get_in xs n (omega (arith, k))
