-- How the code of a change tells what it found.
use Rattle.std.specs.Prelude.{Bool, true, false, List, Option, Some, None}
use Rattle.px_code.specs.declared.side.Side.{Side}

abbrev pub told : Bool → List Side → Option (List Side)
told true sides = Some sides
told false sides = None
