-- Literals (JLS 3.10.1, 3.10.5).
use Rattle.std.specs.Prelude.{ℕ, ◌+◌, ◌-◌, ◌*◌, Bool, true, false, List, [], ◌∷◌, nat_le}
pub use Rattle.px_value.specs.Limits.{max_text}
use Rattle.px_facts.specs.declared.types.Ty.{Ty}
use Rattle.px_facts.specs.declared.types.Ty.TheVariants.{Int, Long}

-- the number that decimal digits write behind those of n
abbrev pub decimal_value : List ℕ → ℕ → ℕ
decimal_value [] n = n
decimal_value (d ∷ ds) n = decimal_value ds (n * 10 + (d - 48))

-- a literal with an L is a long
abbrev pub literal_type : Bool → Ty
literal_type true = Long
literal_type false = Int

-- the greatest literal of its type, and the one more that may stand right after a minus
abbrev pub greatest_literal : Bool → Bool → ℕ
greatest_literal false false = 2147483647
greatest_literal false true = 2147483648
greatest_literal true false = 9223372036854775807
greatest_literal true true = 9223372036854775808

-- `negated` tells that the literal stands right after a minus
abbrev pub is_in_range : List ℕ → Bool → Bool → Bool
is_in_range digits long negated = nat_le (decimal_value digits 0) (greatest_literal long negated)
