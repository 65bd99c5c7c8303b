-- A list that is made of another, item by item.
use Rattle.std.proofs.Common.{◌≡◌, ℕ, zero, suc, ◌+◌, List, [], ◌∷◌, ◌++◌, map, drop, Some, slice_get, sym, ap, ◌∙◌, append_assoc, add-one}

dropped : {A : Type 0} (xs : List A) (i : ℕ) (x : A) → slice_get xs i ≡ Some x → drop i xs ≡ x ∷ drop (suc i) xs
dropped [] zero x h = cc
dropped [] (suc i) x h = cc
dropped (y ∷ ys) zero x h = let e : y ≡ x = cc in ap (λ z. z ∷ ys) e
dropped (y ∷ ys) (suc i) x h = dropped ys i x h

rest : {A B : Type 0} (f : A → B) (xs : List A) (i : ℕ) (x : A) → slice_get xs i ≡ Some x → map f (drop i xs) ≡ f x ∷ map f (drop (i + 1) xs)
rest f xs i x h = ap (map f) (dropped xs i x h) ∙ ap (λ n. f x ∷ map f (drop n xs)) (sym (add-one i))

pub pushed_more : {A B : Type 0} (f : A → B) (xs : List A) (i : ℕ) (x : A) (ys more : List B) (y : B) → slice_get xs i ≡ Some x → map f xs ≡ ys ++ map f (drop i xs) → more ≡ ys ++ y ∷ [] → y ≡ f x → map f xs ≡ more ++ map f (drop (i + 1) xs)
pushed_more {A} {B} f xs i x ys more y h all pushed made =
    all ∙ ap (λ (zs : List B). ys ++ zs) (rest f xs i x h) ∙ ap (λ z. ys ++ z ∷ map f (drop (i + 1) xs)) (sym made)
    ∙ sym (append_assoc ys (y ∷ []) (map f (drop (i + 1) xs))) ∙ sym (ap (λ (zs : List B). zs ++ map f (drop (i + 1) xs)) pushed)

map_more : {A B : Type 0} (g : A → B) (xs : List A) (x : A) → map g (xs ++ x ∷ []) ≡ map g xs ++ g x ∷ []
map_more g [] x = λ i. g x ∷ []
map_more g (y ∷ xs) x = ap (λ zs. g y ∷ zs) (map_more g xs x)

pub mapped_more : {A B C : Type 0} (f : A → C) (g : B → C) (xs : List A) (i : ℕ) (x : A) (ys more : List B) (y : B) → slice_get xs i ≡ Some x → map f xs ≡ map g ys ++ map f (drop i xs) → more ≡ ys ++ y ∷ [] → g y ≡ f x → map f xs ≡ map g more ++ map f (drop (i + 1) xs)
mapped_more f g xs i x ys more y h all pushed made = pushed_more f xs i x (map g ys) (map g more) (g y) h all (ap (map g) pushed ∙ map_more g ys y) made
