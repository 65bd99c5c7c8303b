-- What is left of a number in 32 or 64 bits.
use Rattle.std.proofs.Common.{◌≡◌, ℕ, zero, suc, ◌+◌, ◌/◌, ◌%◌, ◌^◌, ◌<◌, ◌≤◌, ℤ, pos, negsuc, neg_ℤ, refl, ap, arith, w32, w64, FitsSigned, unsigned_abs, Bool, true, false, if◌then◌else◌, Err}
use Rattle.std.specs.Int.{Width, int_wrap, int_rem_euclid, int_wrapping_div, cast_signed, cast_unsigned}
use Rattle.std.specs.Int.RustNames.{int_div}
use Rattle.std.proofs.Math.Nat.{div-le_self}
use Rattle.std.specs.Bool.{Decides}
use Rattle.std.specs.Ordering.{int_eq}
use Rattle.std.proofs.lemmas.Bool.Decides.{Decides-int_eq}
use lib.Signed.{mag}
use Rattle.px_value.specs.declared.thrown.Thrown.TheVariants.{ArithmeticException}
use Rattle.px_value.specs.Operators.{Applied, unless_zero}

-- ---- zero

abbrev pub IsNoZero : Width → ℤ → Type 0
IsNoZero w b = cast_unsigned w b ≡ 0 → ⊥

no_zero : (w : Width) (b : ℤ) → IsNoZero w b → b ≡ pos 0 → ⊥
no_zero w b h e = h (ap (cast_unsigned w) e)

pub unless_no_zero : (w : Width) (b : ℤ) (a : Applied) → IsNoZero w b → a ≡ unless_zero b a
unless_no_zero w b a h = by (int_eq b (pos 0)) (Decides-int_eq b (pos 0))
  where
    by : (t : Bool) → Decides t (b ≡ pos 0) → a ≡ (if t then Err ArithmeticException else a)
    by true d = absurd (no_zero w b h (d.0 refl))
    by false d = refl

-- ---- quotients

mag_neg : (n : ℕ) → mag (neg_ℤ (pos n)) ≤ n
mag_neg zero = omega arith
mag_neg (suc n) = omega arith

quot_mag : (a b : ℤ) → mag (int_div a b) ≤ mag a + 1
quot_mag (pos a) (pos b) = omega (arith, div-le_self a b)
quot_mag (pos a) (negsuc b) = omega (arith, mag_neg (a / suc b), div-le_self a (suc b))
quot_mag (negsuc a) (pos b) = omega (arith, mag_neg (suc a / b), div-le_self (suc a) b)
quot_mag (negsuc a) (negsuc b) = omega (arith, div-le_self (suc a) (suc b))

low_32 : (z : ℤ) → mag z < 2 ^ 32 → cast_unsigned w32 z ≡ unsigned_abs (int_rem_euclid z (pos (2 ^ 32)))
low_32 (pos n) h = omega arith
low_32 (negsuc n) h = omega arith

low_64 : (z : ℤ) → mag z < 2 ^ 64 → cast_unsigned w64 z ≡ unsigned_abs (int_rem_euclid z (pos (2 ^ 64)))
low_64 (pos n) h = omega arith
low_64 (negsuc n) h = omega arith

pub quot_int : (a b : ℤ) → FitsSigned w32 a → int_wrapping_div w32 a b ≡ int_wrap w32 (int_div a b)
unfolding int_wrap
quot_int a b f =
    let g = f.sfits in
    ap (cast_signed w32) (low_32 (int_div a b) (omega (arith, quot_mag a b)))

pub quot_long : (a b : ℤ) → FitsSigned w64 a → int_wrapping_div w64 a b ≡ int_wrap w64 (int_div a b)
unfolding int_wrap
quot_long a b f =
    let g = f.sfits in
    ap (cast_signed w64) (low_64 (int_div a b) (omega (arith, quot_mag a b)))

-- ---- the low bits of longer numbers

pub low_int : (n r : ℤ) → r ≡ int_rem_euclid n (pos 4294967296) → cast_signed w32 (unsigned_abs r) ≡ int_wrap w32 n
unfolding int_wrap
low_int n r h = ap (λ (z : ℤ). cast_signed w32 (unsigned_abs z)) h

pub low_count : (n : ℕ) → cast_signed w32 (n % 4294967296) ≡ int_wrap w32 (pos n)
unfolding int_wrap
low_count n = refl
