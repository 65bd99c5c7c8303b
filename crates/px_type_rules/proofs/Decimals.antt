-- Digits that come later only make a number larger.
use Rattle.std.proofs.Common.{◌≡◌, ℕ, ◌+◌, ◌-◌, ◌*◌, ◌<◌, ◌≤◌, false, nat_le, List, [], ◌∷◌, length, drop, get_or, ap, arith, le_refl}
use Rattle.std.proofs.lemmas.List.{drop_more}
use Rattle.std.proofs.lemmas.Bool.Decides.{nat_tests}
use Rattle.px_type_rules.specs.Literals.{decimal_value}

pub le-decimal_value : (ds : List ℕ) (n : ℕ) → n ≤ decimal_value ds n
le-decimal_value [] n = le_refl n
le-decimal_value (d ∷ ds) n = omega (arith, le-decimal_value ds (n * 10 + (d - 48)))

pub decimal_value_more : (ds : List ℕ) (i n : ℕ) → i < length ds → decimal_value (drop i ds) n ≡ decimal_value (drop (i + 1) ds) (n * 10 + (get_or ds i 0 - 48))
decimal_value_more ds i n h = ap (λ xs. decimal_value xs n) (drop_more ds i 0 h)

more_than : (most a : ℕ) → most < a → false ≡ nat_le a most
more_than most a h = grind (arith, nat_tests)

-- a number passes a limit once its first digits do
pub passes : (ds : List ℕ) (i n most : ℕ) → i < length ds → decimal_value ds 0 ≡ decimal_value (drop i ds) n → most < n * 10 + (get_or ds i 0 - 48) → false ≡ nat_le (decimal_value ds 0) most
passes ds i n most h e big =
    let more = decimal_value_more ds i n h in
    let large = le-decimal_value (drop (i + 1) ds) (n * 10 + (get_or ds i 0 - 48)) in
    more_than most (decimal_value ds 0) (omega (arith, e, more, large))
