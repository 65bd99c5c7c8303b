-- What a side keeps.
use Rattle.std.specs.Prelude.{◌≡◌, ℕ, List}
use Rattle.px_normal.specs.declared.code.Code.{Code}
use Rattle.px_flow_points.specs.declared.part.Part.{Part}
use Rattle.px_flow_points.specs.ByNode.{ReadsAt}
use Rattle.px_blocks.specs.declared.side.Side.{Side}
use Rattle.px_blocks.specs.Rules.{side_of}
use Rattle.px_sync.specs.Homes.{home}

-- A side keeps what is at home there, and what a statement there may read.
pub data Keeps (code : Code) (sides : List Side) (side : Side) (s : ℕ) (part : Part) : Type 0 where
  at_home : home code sides s part ≡ side → Keeps code sides side s part
  read_there : (node : ℕ) → side_of sides node ≡ side → ReadsAt code node s part → Keeps code sides side s part
