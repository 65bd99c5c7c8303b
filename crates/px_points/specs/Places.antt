-- Marked slots and fields: the places that may point to the object of Main.
use Rattle.std.specs.Prelude.{ℕ, zero, suc, Bool, false, List, [], unwrap_or, slice_get, slice_set}
use Rattle.px_points.specs.Marks.{is_marked, with_mark}

-- the slots by the place of their method, from 0
pub record Places : Type 0 where
  pub slots : List (List Bool)
  pub fields : List Bool

abbrev pub marks_at : List (List Bool) → ℕ → List Bool
marks_at slots place = unwrap_or (slice_get slots place) []

abbrev pub slot_at : Places → ℕ → ℕ → Bool
slot_at p place n = is_marked (marks_at p.slots place) n

-- by the number of the method, from 1
abbrev pub slot_points : Places → ℕ → ℕ → Bool
slot_points p zero n = false
slot_points p (suc place) n = slot_at p place n

abbrev pub with_slot : Places → ℕ → ℕ → Places
with_slot p place n = record p { slots = slice_set p.slots place (with_mark (marks_at p.slots place) n) }

abbrev pub with_field : Places → ℕ → Places
with_field p n = record p { fields = with_mark p.fields n }
