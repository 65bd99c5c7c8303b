-- The order as a test and as a fact.
use Rattle.std.proofs.Common.{◌≡◌, ℕ, Bool, true, false, ◌&&◌, List, [], ◌∷◌, refl, arith}
use Rattle.std.proofs.lemmas.Bool.Decides.{nat_tests}
use Rattle.px_wire.specs.Order.{IsBefore, AreInOrder, is_before, are_in_order}

pub both_true : (a b : Bool) → (a && b) ≡ true → (a ≡ true) × (b ≡ true)
both_true true b e = (refl, e)
both_true false b e = absurd cc

before-true : (a b : ℕ × ℕ) → is_before a b ≡ true → IsBefore a b
before-true a b e = grind (arith, nat_tests)

true-before : (a b : ℕ × ℕ) → IsBefore a b → is_before a b ≡ true
true-before a b h = grind (arith, nat_tests)

pub in_order-true : (places : List (ℕ × ℕ)) → are_in_order places ≡ true → AreInOrder places
in_order-true [] e = tt
in_order-true (a ∷ []) e = tt
in_order-true (a ∷ b ∷ places) e =
    let p = both_true (is_before a b) (are_in_order (b ∷ places)) e in
    (before-true a b p.0, in_order-true (b ∷ places) p.1)

pub true-in_order : (places : List (ℕ × ℕ)) → AreInOrder places → are_in_order places ≡ true
true-in_order [] h = refl
true-in_order (a ∷ []) h = refl
true-in_order (a ∷ b ∷ places) h = rw (true-before a b h.0, true-in_order (b ∷ places) h.1) refl
