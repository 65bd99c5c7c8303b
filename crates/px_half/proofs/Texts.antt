-- The text that joins two values is ASCII where they are.
use Rattle.std.proofs.Common.{◌≡◌, ℕ, zero, suc, ◌+◌, ◌/◌, ◌%◌, ◌<◌, ◌≤◌, ◌==◌, Bool, true, false, if◌then◌else◌, nat_lt, ℤ, pos, negsuc, List, [], ◌∷◌, ◌++◌, length, arith, rules}
use Rattle.std.specs.List.{AllByRecursion}
use Rattle.std.specs.Fmt.{digits, digits_onto, digit_glyph, decimal, signed_decimal}
use Rattle.px_value.specs.declared.value.Value.{Value}
use Rattle.px_value.specs.declared.value.Value.TheVariants as v
use Rattle.px_value.specs.Operators.{text_of}
use Rattle.px_wire.specs.Fitting.{HasShortText, IsShortAscii, max_text}

abbrev AreAscii : List ℕ → Type 0
AreAscii text = AllByRecursion (λ byte. byte < 128) text

ascii_append : (a b : List ℕ) → AreAscii a → AreAscii b → AreAscii (a ++ b)
ascii_append [] b h k = k
ascii_append (x ∷ a) b h k = (h.0, ascii_append a b h.1 k)

glyph_is_ascii : (d : ℕ) → d < 10 → digit_glyph false d < 128
glyph_is_ascii d h = by (nat_lt d 10)
  where
    by : (t : Bool) → (if t then 48 + d else 87 + d) < 128
    by true = omega (arith, h)
    by false = omega (arith, h)

abbrev onto : Bool → ℕ → ℕ → List ℕ → List ℕ
onto t k n rest = if t then digit_glyph false (n % 10) ∷ rest else digits_onto k 10 false (n / 10) (digit_glyph false (n % 10) ∷ rest)

one_more : (t : Bool) (k n : ℕ) (rest : List ℕ) → AreAscii (digit_glyph false (n % 10) ∷ rest) → AreAscii (digits_onto k 10 false (n / 10) (digit_glyph false (n % 10) ∷ rest)) → AreAscii (onto t k n rest)
one_more true k n rest h more = h
one_more false k n rest h more = more

onto_is_ascii : (k n : ℕ) (rest : List ℕ) → AreAscii rest → AreAscii (digits_onto k 10 false n rest)
onto_is_ascii zero n rest h = h
onto_is_ascii (suc k) n rest h =
    let last : digit_glyph false (n % 10) < 128 = glyph_is_ascii (n % 10) (omega arith) in
    one_more (n / 10 == 0) k n rest (last, h) (onto_is_ascii k (n / 10) (digit_glyph false (n % 10) ∷ rest) (last, h))

decimal_is_ascii : (n : ℕ) → AreAscii (decimal n)
unfolding digits
decimal_is_ascii n = onto_is_ascii 64 n [] tt

signed_is_ascii : (n : ℤ) → AreAscii (signed_decimal n)
signed_is_ascii (pos n) = decimal_is_ascii n
signed_is_ascii (negsuc n) = (omega arith, decimal_is_ascii (suc n))

text_is_ascii : (a : Value) → HasShortText a → AreAscii (text_of a)
text_is_ascii (v.Int n) h = signed_is_ascii n
text_is_ascii (v.Long n) h = signed_is_ascii n
text_is_ascii (v.Bool true) h = search rules
text_is_ascii (v.Bool false) h = search rules
text_is_ascii (v.Text t) h = h.ascii
text_is_ascii v.Null h = search rules
text_is_ascii (v.Ref place) h = tt

pub joined_short : (a b : Value) → HasShortText a → HasShortText b → length (text_of a ++ text_of b) ≤ max_text → HasShortText (v.Text (text_of a ++ text_of b))
joined_short a b h k short = record { short = short; ascii = ascii_append (text_of a) (text_of b) (text_is_ascii a h) (text_is_ascii b k) }
