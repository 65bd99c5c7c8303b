-- What a pair knows of a program: its code, its blocks, where cells are at home, and which cells each side keeps.
use Rattle.std.specs.Prelude.{ℕ, Bool, true, Option, Some, None, slice_get}
use Rattle.px_value.specs.declared.value.Value.{Value}
use Rattle.px_value.specs.declared.header.Header.{Header}
use Rattle.px_value.specs.declared.header.Kind.{Kind}
use Rattle.px_value.specs.declared.header.Kind.TheVariants as kind
use Rattle.px_blocks.specs.declared.side.Side.{Side}
use Rattle.px_blocks.specs.declared.side.Side.TheVariants.{App}
use Rattle.px_normal.specs.declared.code.Code.{Code}
use Rattle.px_blocks.specs.declared.block.Blocks.{Blocks}
use Rattle.px_effects.specs.Act.{Firsts}
use Rattle.px_effects.specs.Cells.{first_cells}
use Rattle.px_normal.specs.First.{fresh_of}

pub data Part : Type 0 where
  Field : ℕ → Part
  Elements : Part

pub record Plan : Type 0 where
  pub code : Code
  pub blocks : Blocks
  -- by site and part
  pub home : ℕ → Part → Side
  pub keep : Side → ℕ → Part → Bool

-- the first cells of new objects
abbrev pub firsts_of : Code → Firsts
firsts_of code = first_cells (fresh_of code)

abbrev pub part_of : Kind → ℕ → Part
part_of (kind.Object class) i = Field i
part_of _ i = Elements

abbrev pub home_at : Plan → Option Header → ℕ → Side
home_at plan None i = App
home_at plan (Some h) i = plan.home h.site (part_of h.kind i)

-- the side keeps the cell of an object with the header; where no object is, nothing is lacking
abbrev pub kept : Plan → Side → Option Header → ℕ → Bool
kept plan side None i = true
kept plan side (Some h) i = plan.keep side h.site (part_of h.kind i)

abbrev pub first_at : Plan → Option Header → ℕ → Option Value
first_at plan None i = None
first_at plan (Some h) i = slice_get (firsts_of plan.code h) i
