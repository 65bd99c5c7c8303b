-- The order in which slots and cells stand: by the first number, and then by the second.
use Rattle.std.specs.Prelude.{◌≡◌, ℕ, ◌<◌, ◌==◌, nat_lt, ◌⊎◌, ⊤, Bool, true, ◌&&◌, ◌||◌, List, [], ◌∷◌}
use Rattle.px_wire.specs.declared.slot.SlotAt.{SlotAt}
use Rattle.px_wire.specs.declared.cell.CellAt.{CellAt}

abbrev pub IsBefore : ℕ × ℕ → ℕ × ℕ → Type 0
IsBefore a b = (a.0 < b.0) ⊎ ((a.0 ≡ b.0) × (a.1 < b.1))

-- each place is before the next
abbrev pub AreInOrder : List (ℕ × ℕ) → Type 0
AreInOrder [] = ⊤
AreInOrder (a ∷ []) = ⊤
AreInOrder (a ∷ b ∷ places) = IsBefore a b × AreInOrder (b ∷ places)

abbrev pub slot_place : SlotAt → ℕ × ℕ
slot_place s = (s.frame, s.slot)

abbrev pub cell_place : CellAt → ℕ × ℕ
cell_place c = (c.object, c.index)

-- the same as tests
abbrev pub is_before : ℕ × ℕ → ℕ × ℕ → Bool
is_before a b = nat_lt a.0 b.0 || ((a.0 == b.0) && nat_lt a.1 b.1)

abbrev pub are_in_order : List (ℕ × ℕ) → Bool
are_in_order [] = true
are_in_order (a ∷ []) = true
are_in_order (a ∷ b ∷ places) = is_before a b && are_in_order (b ∷ places)
