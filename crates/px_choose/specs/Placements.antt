-- Placements: the side of each node, by number from 1. A pin is a side that is given; the other nodes are free.
use Rattle.std.specs.Prelude.{ℕ, zero, suc, Bool, true, false, List, [], ◌∷◌, map, Option, Some, None, unwrap_or, slice_set, if◌then◌else◌}
use Rattle.px_code.specs.declared.side.Side.{Side}
use Rattle.px_code.specs.Places.{other, numbered, side_of}

-- the sides of `Pins`
abbrev pub Pins : Type 0
Pins = List (Option Side)

abbrev pub is_pin_free : Option (Option Side) → Bool
is_pin_free (Some None) = true
is_pin_free (Some (Some side)) = false
is_pin_free None = false

abbrev pub is_free : Pins → ℕ → Bool
is_free pins node = is_pin_free (numbered pins node)

abbrev pub set_number : {A : Type 0} → List A → ℕ → A → List A
set_number xs zero x = xs
set_number xs (suc n) x = slice_set xs n x

-- a free node is put at a side, and a pinned one stays
abbrev pub with_side : Pins → ℕ → Side → List Side → List Side
with_side pins node side sides = if is_free pins node then set_number sides node side else sides

-- the flip of a node
abbrev pub flipped : Pins → ℕ → List Side → List Side
flipped pins node sides = with_side pins node (other (side_of sides node)) sides

-- all free ones of some nodes go to a side
abbrev pub moved : Pins → List ℕ → Side → List Side → List Side
moved pins [] side sides = sides
moved pins (node ∷ nodes) side sides = moved pins nodes side (with_side pins node side sides)

-- every free node at a side
abbrev pub all_at : Side → Pins → List Side
all_at side pins = map (λ pin. unwrap_or pin side) pins
