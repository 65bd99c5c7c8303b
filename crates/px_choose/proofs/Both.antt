-- Two tests at once, and a test of numbers.
use Rattle.std.proofs.Common.{◌≡◌, ℕ, nat_eq, Bool, true, false, ◌&&◌, refl}
use Rattle.std.proofs.lemmas.Bool.{eqb-true, false_from_ne_true}

pub both_true : (a b : Bool) → a && b ≡ true → (a ≡ true) × (b ≡ true)
both_true true true h = (refl, refl)
both_true true false h = cc
both_true false b h = cc

pub one_false : (a b : Bool) → a && b ≡ false → a ≡ true → b ≡ false
one_false true b h e = h
one_false false b h e = cc

pub and_true : (a b : Bool) → b ≡ true → a ≡ a && b
and_true true true h = refl
and_true false true h = refl
and_true a false h = cc

pub and_false : (a b : Bool) → b ≡ false → false ≡ a && b
and_false true false h = refl
and_false false false h = refl
and_false a true h = cc

pub ne_eqb : (a b : ℕ) → (a ≡ b → ⊥) → nat_eq a b ≡ false
ne_eqb a b h = false_from_ne_true (nat_eq a b) (λ e. h (eqb-true a b e))
