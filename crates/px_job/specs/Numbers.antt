-- Words of digits, and the numbers that they write.
use Rattle.std.specs.Prelude.{ℕ, ◌-◌, ◌^◌, nat_le, Bool, false, ◌&&◌, List, [], ◌∷◌, unwrap_or, Option, Some, None, if◌then◌else◌}
use Rattle.std.specs.List.{list_all}
use Rattle.px_outside.specs.Numbers.{u64_of}
use Rattle.px_job.specs.Arguments.{is_digits}

-- the number that digits write; one past 64 bits, which every range leaves out, counts as their greatest
abbrev pub number : List ℕ → ℕ
number word = unwrap_or (u64_of word) (2 ^ 64 - 1)

-- a number, where it is in a range
abbrev pub within : ℕ → ℕ → ℕ → Option ℕ
within least most n = if nat_le least n && nat_le n most then Some n else None

-- one word or more, each of digits
abbrev pub are_digits : List (List ℕ) → Bool
are_digits [] = false
are_digits (word ∷ words) = is_digits word && list_all is_digits words

abbrev pub with_number : Option ℕ → Option (List ℕ) → Option (List ℕ)
with_number (Some n) (Some ns) = Some (n ∷ ns)
with_number _ _ = None

-- the numbers of words, where each is in a range
abbrev pub numbers_within : ℕ → ℕ → List (List ℕ) → Option (List ℕ)
numbers_within least most [] = Some []
numbers_within least most (word ∷ words) = with_number (within least most (number word)) (numbers_within least most words)
