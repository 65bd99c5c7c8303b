-- Digits behind a number.
use Rattle.std.proofs.Common.{◌≡◌, ℕ, ◌+◌, ◌-◌, ◌*◌, ◌<◌, List, [], ◌∷◌, Some, None, if◌then◌else◌, true, false, length, slice_index, refl, arith}
use Rattle.std.specs.Char.{is_ascii_digit}
use Rattle.px_outside.specs.Numbers.{digits_after, up_to}

-- a number that is too great stays so
pub above_most : (most number : ℕ) (rest : List ℕ) → most < number → up_to most (digits_after number rest) ≡ None
above_most most number [] h = grind arith
above_most most number (digit ∷ rest) h =
    let longer : up_to most (digits_after (number * 10 + (digit - 48)) rest) ≡ None = above_most most (number * 10 + (digit - 48)) rest (omega arith) in
    elim (is_ascii_digit digit) as (λ b. up_to most (if b then digits_after (number * 10 + (digit - 48)) rest else None) ≡ None) [ true ↦ longer | false ↦ refl ]

-- the digit, or what stands in its place, is refused
pub refused : (most number : ℕ) (text : List ℕ) → 0 < length text → (if is_ascii_digit (slice_index text 0) then up_to most (Some (number * 10 + (slice_index text 0 - 48))) else None) ≡ None → up_to most (digits_after number text) ≡ None
refused most number [] h e = absurd (omega (arith, h))
refused most number (digit ∷ rest) h e =
    elim (is_ascii_digit digit) as (λ b. (if b then up_to most (Some (number * 10 + (digit - 48))) else None) ≡ None → up_to most (if b then digits_after (number * 10 + (digit - 48)) rest else None) ≡ None) [ true ↦ (λ q. above_most most (number * 10 + (digit - 48)) rest (grind (arith, q))) | false ↦ (λ _. refl) ] e
