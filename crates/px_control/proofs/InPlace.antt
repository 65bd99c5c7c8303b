-- A list whose items are changed in place, one by one.
use Rattle.std.proofs.Common.{◌≡◌, ℕ, zero, suc, ◌+◌, List, [], ◌∷◌, ◌++◌, map, take, drop, Some, slice_get, slice_set, refl, sym, ap, ◌∙◌, add-one}

abbrev pub so_far : {A : Type 0} → (A → A) → List A → ℕ → List A
so_far f xs i = map f (take i xs) ++ drop i xs

one_more : {A : Type 0} (f : A → A) (xs : List A) (i : ℕ) (x : A) → slice_get (so_far f xs i) i ≡ Some x → slice_set (so_far f xs i) i (f x) ≡ so_far f xs (suc i)
one_more f [] zero x h = refl
one_more f [] (suc i) x h = refl
one_more {A = A} f (y ∷ xs) zero x h = let e : y ≡ x = cc in ap (λ (z : A). f z ∷ xs) (sym e)
one_more {A = A} f (y ∷ xs) (suc i) x h = ap (λ (zs : List A). f y ∷ zs) (one_more f xs i x h)

pub next_in_place : {A : Type 0} (f : A → A) (xs ys : List A) (i : ℕ) (x : A) → so_far f xs i ≡ ys → slice_get ys i ≡ Some x → so_far f xs (i + 1) ≡ slice_set ys i (f x)
next_in_place {A = A} f xs ys i x e h = ap (so_far f xs) (add-one i) ∙ sym (one_more f xs i x (ap (λ (zs : List A). slice_get zs i) e ∙ h)) ∙ ap (λ (zs : List A). slice_set zs i (f x)) e
