-- Signed numbers.
use Rattle.std.proofs.Common.{◌≡◌, ℕ, zero, suc, ◌+◌, ◌-◌, ◌<◌, ◌≤◌, ◌^◌, ◌==◌, nat_le, Bool, true, false, cond, if◌then◌else◌, ◌&&◌, List, [], ◌∷◌, ◌++◌, length, Option, Some, None, inl, inr, refl, sym, ap, subst, ◌∙◌, arith, ℤ, pos, negsuc, neg_ℤ, decimal, drop, int_le}
use Rattle.std.specs.Prelude.{slice_index}
use Rattle.std.specs.Option.{option_map}
use Rattle.std.specs.List.{AllByRecursion}
use Rattle.std.specs.Fmt.{signed_decimal}
use Rattle.std.specs.Char.{digit_value}
use Rattle.std.specs.Str.{bytes_eq}
use Rattle.std.specs.Str.Parse.{AllDigits, starts_with_minus}
use Rattle.std.specs.Int.{w32, w64}
use Rattle.std.specs.Int.RustNames.{FitsSigned}
use Rattle.std.specs.Int.Signed.{mag}
use Rattle.std.proofs.lemmas.Fmt.{decimal_is_IsNumeral}
use Rattle.std.proofs.lemmas.Str.Parse.{digit_from_value}
use Rattle.px_outside.specs.Numbers.{number_of as written, up_to, i64_of}
use Rattle.px_pyxil_reader.specs.Reading.{◌>>=◌, int_of, long_of}
use Rattle.px_pyxil_reader.proofs.Readers.{bind_some, some_is, chosen, guard_some, bytes_same, bytes_again, ReadsWord}
use Rattle.px_pyxil_reader.proofs.NumbersRead.{IsNumberByte, AreNumberBytes, decimal_bytes, written_decimal, up_to_again, mapped_some}

pub signed_bytes : (z : ℤ) → mag z < 2 ^ 63 → AreNumberBytes (signed_decimal z)
signed_bytes (pos n) h = decimal_bytes n (omega (arith, h))
signed_bytes (negsuc n) h = ((omega arith, omega arith), decimal_bytes (suc n) (omega (arith, h)))

no_minus : (ds : List ℕ) → 0 < length ds → AllDigits 10 ds → starts_with_minus ds ≡ false
no_minus [] l h = absurd (omega (arith, l))
no_minus (c ∷ cs) l h = let r = digit_from_value c h.0 in grind (arith, r.0, r.1)

abbrev negated : ℕ → ℤ
negated n = neg_ℤ (pos n)

i64_by : (b : Bool) (word : List ℕ) → starts_with_minus word ≡ b → i64_of word ≡ (if b then option_map negated (up_to (2 ^ 63) (written (drop 1 word))) else option_map pos (up_to (2 ^ 63 - 1) (written word)))
i64_by b word e = ap (λ c. if c then option_map negated (up_to (2 ^ 63) (written (drop 1 word))) else option_map pos (up_to (2 ^ 63 - 1) (written word))) e

i64_again : (z : ℤ) → mag z < 2 ^ 63 → i64_of (signed_decimal z) ≡ Some z
i64_again (pos n) h =
    let p = decimal_is_IsNumeral n (omega (arith, h)) in
    i64_by false (decimal n) (no_minus (decimal n) p.0.0 p.0.1)
    ∙ ap (λ o. option_map pos (up_to (2 ^ 63 - 1) o)) (written_decimal n (omega (arith, h)))
    ∙ ap (option_map pos) (up_to_again (2 ^ 63 - 1) n (omega (arith, h)))
i64_again (negsuc n) h =
    ap (λ o. option_map negated (up_to (2 ^ 63) o)) (written_decimal (suc n) (omega (arith, h)))
    ∙ ap (option_map negated) (up_to_again (2 ^ 63) (suc n) (omega (arith, h)))

up_to_fits : (most : ℕ) (o : Option ℕ) (n : ℕ) → up_to most o ≡ Some n → n ≤ most
up_to_fits most None n e = absurd cc
up_to_fits most (Some m) n e =
    let g = guard_some (nat_le m most) m n e in
    subst (λ x. x ≤ most) g.1 (let t = g.0 in grind (arith, t))

negated_fits : (n : ℕ) → n ≤ 2 ^ 63 → mag (negated n) < 2 ^ 63
negated_fits zero h = omega arith
negated_fits (suc n) h = omega (arith, h)

i64_fits : (word : List ℕ) (z : ℤ) → i64_of word ≡ Some z → mag z < 2 ^ 63
i64_fits word z e = by (starts_with_minus word) refl
  where
    by : (b : Bool) → starts_with_minus word ≡ b → mag z < 2 ^ 63
    by true t =
        let m = mapped_some negated (up_to (2 ^ 63) (written (drop 1 word))) z (sym (i64_by true word t) ∙ e) in
        subst (λ x. mag x < 2 ^ 63) m.2 (negated_fits m.0 (up_to_fits (2 ^ 63) (written (drop 1 word)) m.0 m.1))
    by false t =
        let m = mapped_some pos (up_to (2 ^ 63 - 1) (written word)) z (sym (i64_by false word t) ∙ e) in
        subst (λ x. mag x < 2 ^ 63) m.2 (let f = up_to_fits (2 ^ 63 - 1) (written word) m.0 m.1 in omega (arith, f))

abbrev some_number : ℤ → Option ℤ
some_number z = Some z

long_again : (z : ℤ) → mag z < 2 ^ 63 → long_of (signed_decimal z) ≡ Some z
unfolding long_of
long_again z h =
    ap (λ o. o >>= λ n. if bytes_eq (signed_decimal n) (signed_decimal z) then some_number n else None) (i64_again z h)
    ∙ ap (λ b. if b then some_number z else None) (bytes_again (signed_decimal z))

long_taken : (word : List ℕ) (z : ℤ) → long_of word ≡ Some z → (mag z < 2 ^ 63) × (signed_decimal z ≡ word)
unfolding long_of
long_taken word z e =
    let m = bind_some (i64_of word) (λ n. if bytes_eq (signed_decimal n) word then some_number n else None) z e in
    let g = guard_some (bytes_eq (signed_decimal m.0) word) m.0 z m.2 in
    (subst (λ x. mag x < 2 ^ 63) g.1 (i64_fits word m.0 m.1), ap signed_decimal (sym g.1) ∙ bytes_same (signed_decimal m.0) word g.0)

pub long_word : ReadsWord (FitsSigned w64) signed_decimal long_of
long_word = record {
  again = λ z f. long_again z f.sfits;
  taken = λ word z e. let p = long_taken word z e in (record { sfits = p.0 }, p.1);
}

abbrev in_int : ℤ → Bool
in_int n = int_le (negsuc 2147483647) n && int_le n (pos 2147483647)

int_inside : (z : ℤ) → mag z < 2 ^ 31 → in_int z ≡ true
int_inside (pos n) h = grind (arith, h)
int_inside (negsuc n) h = grind (arith, h)

inside_int : (z : ℤ) → in_int z ≡ true → mag z < 2 ^ 31
inside_int (pos n) h = grind (arith, h)
inside_int (negsuc n) h = grind (arith, h)

int_again : (z : ℤ) → mag z < 2 ^ 31 → int_of (signed_decimal z) ≡ Some z
unfolding int_of
int_again z h =
    ap (λ o. o >>= λ n. if in_int n then some_number n else None) (long_again z (omega (arith, h)))
    ∙ ap (λ b. if b then some_number z else None) (int_inside z h)

int_taken : (word : List ℕ) (z : ℤ) → int_of word ≡ Some z → (mag z < 2 ^ 31) × (signed_decimal z ≡ word)
unfolding int_of
int_taken word z e =
    let m = bind_some (long_of word) (λ n. if in_int n then some_number n else None) z e in
    let g = guard_some (in_int m.0) m.0 z m.2 in
    let p = long_taken word m.0 m.1 in
    (subst (λ x. mag x < 2 ^ 31) g.1 (inside_int m.0 g.0), ap signed_decimal (sym g.1) ∙ p.1)

pub int_word : ReadsWord (FitsSigned w32) signed_decimal int_of
int_word = record {
  again = λ z f. int_again z f.sfits;
  taken = λ word z e. let p = int_taken word z e in (record { sfits = p.0 }, p.1);
}
