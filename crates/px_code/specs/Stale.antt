-- Stale reads, of a list of reads, writes and messages alone.
use Rattle.std.specs.Prelude.{◌≡◌, Bool, true, false, not, ◌&&◌, ◌||◌, ◌==◌, List, [], ◌∷◌, ◌++◌}
use Rattle.px_code.specs.declared.side.Side.{Side}
use Rattle.px_code.specs.declared.cell.Cell.{Cell}
use Rattle.px_code.specs.Places.{other, same_side}

-- what happened at a side, and a message that brought cells to it; the latest stands first
pub data Event : Type 0 where
  Read : Side → Cell → Event
  Wrote : Side → Cell → Event
  Brought : Side → List Cell → Event

abbrev pub same_cell : Cell → Cell → Bool
same_cell a b = (a.object == b.object) && (a.index == b.index)

abbrev pub has_cell : List Cell → Cell → Bool
has_cell [] c = false
has_cell (d ∷ cells) c = same_cell d c || has_cell cells c

-- no event of these writes the cell or brings it to the side
abbrev pub is_quiet : List Event → Side → Cell → Bool
is_quiet [] side c = true
is_quiet (Read at d ∷ events) side c = is_quiet events side c
is_quiet (Wrote at d ∷ events) side c = not (same_cell d c) && is_quiet events side c
is_quiet (Brought at cells ∷ events) side c = not (same_side at side && has_cell cells c) && is_quiet events side c

-- A read of the cell at the side is stale: the last write of it was made at the other side, and no message after that write brought it here.
pub record IsStale (before : List Event) (side : Side) (c : Cell) : Type 0 where
  pub later : List Event
  pub earlier : List Event
  pub split : before ≡ later ++ Wrote (other side) c ∷ earlier
  pub quiet : is_quiet later side c ≡ true

-- no read of the list is stale
abbrev pub NoneStale : List Event → Type 0
NoneStale [] = Unit {0}
NoneStale (Read side c ∷ events) = (IsStale events side c → ⊥) × NoneStale events
NoneStale (Wrote side c ∷ events) = NoneStale events
NoneStale (Brought side cells ∷ events) = NoneStale events
