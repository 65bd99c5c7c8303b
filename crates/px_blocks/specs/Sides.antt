-- Sides and cells.
use Rattle.std.specs.Prelude.{ℕ, zero, suc, Bool, true, false, not, ◌&&◌}
use Rattle.px_blocks.specs.declared.side.Side.{Side}
use Rattle.px_blocks.specs.declared.side.Side.TheVariants.{App, Db}

abbrev pub other : Side → Side
other App = Db
other Db = App

abbrev pub is_app : Side → Bool
is_app App = true
is_app Db = false

abbrev pub same_side : Side → Side → Bool
same_side App side = is_app side
same_side Db side = not (is_app side)

-- equal numbers, by recursion, so that it computes at `suc`
abbrev pub same : ℕ → ℕ → Bool
same zero zero = true
same zero (suc n) = false
same (suc m) zero = false
same (suc m) (suc n) = same m n

abbrev pub same_cell : ℕ → ℕ → ℕ → ℕ → Bool
same_cell o i o' i' = same o' o && same i' i
