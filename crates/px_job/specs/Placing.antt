-- The placement that a part makes.
use Rattle.std.specs.Prelude.{List, map, Option, unwrap_or}
use Rattle.px_code.specs.declared.side.Side.{Side}
use Rattle.px_code.specs.declared.side.Side.TheVariants.{App}
use Rattle.px_code.specs.declared.placement.Placement.{Placement}
use Rattle.px_job.specs.declared.job.Part.{Part}

-- the side that is set, and APP where none is
abbrev pub side_or_app : Option Side → Side
side_or_app side = unwrap_or side App

abbrev pub sides_or_app : List (Option Side) → List Side
sides_or_app sides = map side_or_app sides

-- the sides of a part's nodes
abbrev pub sides_of : Part → Placement
sides_of part = record { sides = sides_or_app part.sides.sides }
