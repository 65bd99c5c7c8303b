-- Numbers below a count, of which some are marked: a truth for each.
use Rattle.std.specs.Prelude.{ℕ, Bool, true, false, not, List, replicate, unwrap_or, slice_get, slice_set}

abbrev pub unmarked : ℕ → List Bool
unmarked count = replicate count false

abbrev pub is_marked : List Bool → ℕ → Bool
is_marked marks n = unwrap_or (slice_get marks n) false

-- below the count, and not marked
abbrev pub is_open : List Bool → ℕ → Bool
is_open marks n = not (unwrap_or (slice_get marks n) true)

abbrev pub with_mark : List Bool → ℕ → List Bool
with_mark marks n = slice_set marks n true
