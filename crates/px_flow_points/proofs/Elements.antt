-- Lists that are read by place.
use Rattle.std.proofs.Common.{◌≡◌, ℕ, zero, suc, List, [], ◌∷◌, ◌++◌, map, Some, slice_get, refl, ap, ◌⊎◌, inl, inr, ⊎_elim}
use Rattle.std.proofs.lemmas.Option.{same_Some}
use Rattle.px_constraints.specs.System.{At}

pub in_none : {A : Type 0} (x : A) → At [] x → ⊥
in_none x h = cc

pub in_one : {A : Type 0} (x y : A) → At (x ∷ []) y → x ≡ y
in_one x y (zero, h) = same_Some x y h
in_one x y (suc k, h) = cc

pub in_head : {A : Type 0} (x : A) (xs : List A) → At (x ∷ xs) x
in_head x xs = (zero, refl)

pub in_tail : {A : Type 0} (x : A) (xs : List A) (y : A) → At xs y → At (x ∷ xs) y
in_tail x xs y h = (suc h.0, h.1)

pub in_cons : {A : Type 0} (x : A) (xs : List A) (y : A) → At (x ∷ xs) y → (x ≡ y) ⊎ At xs y
in_cons x xs y (zero, h) = inl (same_Some x y h)
in_cons x xs y (suc k, h) = inr (k, h)

get_append : {A : Type 0} (xs ys : List A) (k : ℕ) (x : A) → slice_get (xs ++ ys) k ≡ Some x → At xs x ⊎ At ys x
get_append [] ys k x h = inr (k, h)
get_append (z ∷ xs) ys zero x h = inl (zero, h)
get_append (z ∷ xs) ys (suc k) x h = ⊎_elim (λ (t : At xs x). inl (suc t.0, t.1)) inr (get_append xs ys k x h)

pub in_append : {A : Type 0} (xs ys : List A) (x : A) → At (xs ++ ys) x → At xs x ⊎ At ys x
in_append xs ys x h = get_append xs ys h.0 x h.1

get_first : {A : Type 0} (xs ys : List A) (k : ℕ) (x : A) → slice_get xs k ≡ Some x → At (xs ++ ys) x
get_first [] ys k x h = cc
get_first (z ∷ xs) ys zero x h = (zero, h)
get_first (z ∷ xs) ys (suc k) x h = let t = get_first xs ys k x h in (suc t.0, t.1)

pub in_first : {A : Type 0} (xs ys : List A) (x : A) → At xs x → At (xs ++ ys) x
in_first xs ys x h = get_first xs ys h.0 x h.1

pub in_second : {A : Type 0} (xs ys : List A) (x : A) → At ys x → At (xs ++ ys) x
in_second [] ys x h = h
in_second (z ∷ xs) ys x h = let t = in_second xs ys x h in (suc t.0, t.1)

pub in_map : {A B : Type 0} (f : A → B) (xs : List A) (x : A) → At xs x → At (map f xs) (f x)
in_map f [] x h = absurd (in_none x h)
in_map f (y ∷ xs) x (zero, h) = (zero, ap (λ z. Some (f z)) (same_Some y x h))
in_map f (y ∷ xs) x (suc k, h) = let t = in_map f xs x (k, h) in (suc t.0, t.1)

-- what a map has comes from something
pub record Comes {A B : Type 0} (f : A → B) (xs : List A) (y : B) : Type 0 where
  pub from : A
  pub at : At xs from
  pub is : f from ≡ y

pub from_map : {A B : Type 0} (f : A → B) (xs : List A) (y : B) → At (map f xs) y → Comes f xs y
from_map f [] y h = absurd (in_none y h)
from_map f (x ∷ xs) y (zero, h) = record { from = x; at = (zero, refl); is = same_Some (f x) y h }
from_map f (x ∷ xs) y (suc k, h) = let t = from_map f xs y (k, h) in record { from = t.from; at = (suc t.at.0, t.at.1); is = t.is }
