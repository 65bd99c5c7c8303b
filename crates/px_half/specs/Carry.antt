-- How the cells of a message are found: the marked ones in order, and of these the named ones with their values.
use Rattle.std.specs.Prelude.{◌≡◌, ℕ, Bool, true, false, List, [], ◌∷◌, map, Option, Some, None}
use Rattle.std.specs.Ordering.{nat_cmp}
use Rattle.std.specs.BTreeSet.{BTreeSet, contains}
use Rattle.px_value.specs.declared.value.Value.{Value}
use Rattle.px_value.specs.declared.object.Object.{Object}
use Rattle.px_value.specs.Heap.{cell_at}
use Rattle.px_code.specs.declared.side.Side.{Side}
use Rattle.px_code.specs.declared.side.Side.TheVariants.{App, Db}
use Rattle.px_code.specs.declared.cell.Cell.{Cell}
use Rattle.px_code.specs.declared.block.Naming.{Naming}
use Rattle.px_code.specs.declared.plan.Plan.{Plan}
use Rattle.px_wire.specs.declared.cell.CellAt.{CellAt}
use Rattle.px_wire.specs.Order.{AreInOrder}
use Rattle.px_half.specs.declared.carry.Named.{Named}
use Rattle.px_half.specs.Messages.{home, header_at, is_marked, is_named}

abbrev pub place_of : Cell → ℕ × ℕ
place_of c = (c.object, c.index)

-- these are the marked cells in order, each once
pub record AreEachOnce (marks cells : List Cell) : Type 0 where
  pub in_order : AreInOrder (map place_of cells)
  pub same : (object index : ℕ) → is_marked cells object index ≡ is_marked marks object index

-- ---- names

abbrev pub HasNamed : List Naming → Side → BTreeSet ℕ → Type 0
HasNamed named side objects = (object : ℕ) → contains nat_cmp objects object ≡ is_named named side object

abbrev pub names : Named → Side → ℕ → Bool
names n App object = contains nat_cmp n.app object
names n Db object = contains nat_cmp n.db object

abbrev pub IsLookupOf : List Naming → Named → Type 0
IsLookupOf named n = (side : Side) (object : ℕ) → names n side object ≡ is_named named side object

-- ---- values

abbrev pub with_value : Cell → Option Value → List CellAt → List CellAt
with_value c None rest = rest
with_value c (Some v) rest = record { object = c.object; index = c.index; value = v } ∷ rest

abbrev pub with_value_if : Bool → Cell → Option Value → List CellAt → List CellAt
with_value_if true c v rest = with_value c v rest
with_value_if false c v rest = rest

abbrev pub is_named_cell : Option Plan → List Object → (Side → ℕ → Bool) → Cell → Bool
is_named_cell plan heap is_named_at c = is_named_at (home plan (header_at heap c.object) c.index) c.object

-- those of the cells that are named and that the heap has, with their values
abbrev pub carried : Option Plan → List Object → (Side → ℕ → Bool) → List Cell → List CellAt
carried plan heap is_named_at [] = []
carried plan heap is_named_at (c ∷ cells) = with_value_if (is_named_cell plan heap is_named_at c) c (cell_at heap c.object c.index) (carried plan heap is_named_at cells)
