-- Decimal numbers in a text.
use Rattle.std.specs.Prelude.{ℕ, ◌+◌, ◌-◌, ◌*◌, ◌^◌, ℤ, pos, neg_ℤ, nat_le, List, [], ◌∷◌, drop, Option, Some, None, if◌then◌else◌}
use Rattle.std.specs.Option.{option_map}
use Rattle.std.specs.Char.{is_ascii_digit}
use Rattle.std.specs.Str.Parse.{starts_with_minus}

-- the number that digits write behind those of a number
abbrev pub digits_after : ℕ → List ℕ → Option ℕ
digits_after number [] = Some number
digits_after number (digit ∷ rest) = if is_ascii_digit digit then digits_after (number * 10 + (digit - 48)) rest else None

-- the number that one or more digits write
abbrev pub number_of : List ℕ → Option ℕ
number_of [] = None
number_of (digit ∷ rest) = digits_after 0 (digit ∷ rest)

-- a number, unless it is above the most
abbrev pub up_to : ℕ → Option ℕ → Option ℕ
up_to most None = None
up_to most (Some number) = if nat_le number most then Some number else None

-- the number that a text writes, where a u64 holds it
abbrev pub u64_of : List ℕ → Option ℕ
u64_of text = up_to (2 ^ 64 - 1) (number_of text)

-- the number that a text of digits writes, or with a minus in front its negative, where an i64 holds it
abbrev pub i64_of : List ℕ → Option ℤ
i64_of text = if starts_with_minus text then option_map (λ number. neg_ℤ (pos number)) (up_to (2 ^ 63) (number_of (drop 1 text))) else option_map pos (up_to (2 ^ 63 - 1) (number_of text))
