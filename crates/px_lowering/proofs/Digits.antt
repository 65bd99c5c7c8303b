-- The value of a literal, digit by digit in a number of limited bits.
use Rattle.std.proofs.Common.{◌≡◌, ℕ, suc, ◌+◌, ◌-◌, ◌*◌, ◌%◌, ◌^◌, ◌<◌, List, [], ◌∷◌, drop, get_or, length, refl, sym, ap, ◌∙◌, drop-cons, add-one, pos, w32, w64}
use Rattle.std.specs.Int.{int_wrap, cast_signed}
use Rattle.std.proofs.Math.Nat.{mod-add-mod, mod-mod, mod-mod_of_dvd, dvd_of_mod-eq-zero}
use Rattle.std.proofs.lemmas.Nat.{mul-mod_first}
use Rattle.px_mean.specs.Expressions.{decimal_value}

step : (m a b k : ℕ) → a % m ≡ b % m → (a * 10 + k) % m ≡ (b * 10 + k) % m
step m a b k h =
    sym (mod-add-mod (a * 10) m k) ∙ ap (λ x. (x + k) % m) (sym (mul-mod_first a 10 m) ∙ ap (λ x. (x * 10) % m) h ∙ mul-mod_first b 10 m)
    ∙ mod-add-mod (b * 10) m k

same_rest : (m : ℕ) (ds : List ℕ) (a b : ℕ) → a % m ≡ b % m → decimal_value ds a % m ≡ decimal_value ds b % m
same_rest m [] a b h = h
same_rest m (d ∷ ds) a b h = same_rest m ds (a * 10 + (d - 48)) (b * 10 + (d - 48)) (step m a b (d - 48) h)

pub one_digit : (all m n i k : ℕ) (ds : List ℕ) → i < length ds → k ≡ get_or ds i 0 - 48 → all ≡ decimal_value (drop i ds) n % m → all ≡ decimal_value (drop (i + 1) ds) (((n * 10) % m + k) % m) % m
one_digit all m n i k ds h e w =
    w ∙ ap (λ xs. decimal_value xs n % m) (drop-cons ds i 0 h)
    ∙ same_rest m (drop (suc i) ds) (n * 10 + (get_or ds i 0 - 48)) (((n * 10) % m + k) % m) (sym (mod-mod _ m ∙ mod-add-mod (n * 10) m k ∙ ap (λ x. (n * 10 + x) % m) e))
    ∙ ap (λ j. decimal_value (drop j ds) (((n * 10) % m + k) % m) % m) (sym (add-one i))

pub long_bits : (n : ℕ) → cast_signed w64 (n % 2 ^ 64) ≡ int_wrap w64 (pos n)
unfolding int_wrap
long_bits n = refl

pub int_bits : (n : ℕ) → cast_signed w32 ((n % 2 ^ 64) % 4294967296) ≡ int_wrap w32 (pos n)
unfolding int_wrap
int_bits n = ap (cast_signed w32) (mod-mod_of_dvd 4294967296 n (dvd_of_mod-eq-zero 4294967296 {n = 18446744073709551616} refl))
