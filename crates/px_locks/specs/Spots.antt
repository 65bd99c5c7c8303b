-- The order in which the book keeps its grants.
use Rattle.std.specs.Prelude.{ℕ, ℤ, ◌+◌, ◌*◌, ◌==◌, List, filter, Option, Some, None}
use Rattle.std.specs.Int.{w64, cast_unsigned}
use Rattle.std.specs.List.Sorted.{IsNonDecreasingBy}
use Rattle.px_locks.specs.declared.want.Item.{Item}
use Rattle.px_locks.specs.declared.want.Grant.{Grant}

abbrev pub bits_of : Option ℤ → ℕ
bits_of None = 0
bits_of (Some key) = cast_unsigned w64 key

-- the number that orders items
abbrev pub spot_of_item : Item → ℕ
spot_of_item item = item.table * 18446744073709551616 + bits_of item.key

abbrev pub spot_of : Grant → ℕ
spot_of g = spot_of_item g.want.item

-- the grants are in order of these numbers
unfoldable pub IsInOrder : List Grant → Type 0
IsInOrder grants = IsNonDecreasingBy spot_of grants

-- the grants that have an item's number
abbrev pub beside : Item → List Grant → List Grant
beside item grants = filter (λ g. spot_of g == spot_of_item item) grants
