-- Numbers as ints, and the rest of a list.
use Rattle.std.proofs.Common.{◌≡◌, ℕ, zero, suc, ◌%◌, List, [], ◌∷◌, drop, Some, slice_get, w32, pos, refl, ap}
use Rattle.std.specs.Int.{int_wrap, cast_signed}

pub low_count : (n : ℕ) → cast_signed w32 (n % 4294967296) ≡ int_wrap w32 (pos n)
unfolding int_wrap
low_count n = refl

pub dropped : {A : Type 0} (xs : List A) (i : ℕ) (x : A) → slice_get xs i ≡ Some x → drop i xs ≡ x ∷ drop (suc i) xs
dropped [] zero x h = cc
dropped [] (suc i) x h = cc
dropped (y ∷ ys) zero x h = let e : y ≡ x = cc in ap (λ z. z ∷ ys) e
dropped (y ∷ ys) (suc i) x h = dropped ys i x h
