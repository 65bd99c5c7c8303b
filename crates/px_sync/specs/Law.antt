-- That what is found to be kept is what a side keeps.
use Rattle.std.specs.Prelude.{◌≡◌, ℕ, true, List}
use Rattle.px_normal.specs.declared.code.Code.{Code}
use Rattle.px_flow_points.specs.declared.part.Part.{Part}
use Rattle.px_flow_points.specs.Laws.{Both}
use Rattle.px_flow_points.specs.ByNode.{Found, AreTouched, pair}
use Rattle.px_blocks.specs.declared.side.Side.{Side}
use Rattle.px_sync.specs.Keeps.{Keeps}
use Rattle.px_sync.specs.Found.{reads_at, keeps}

abbrev pub KeepsExactly : Type 0
KeepsExactly = (code : Code) (sides : List Side) (points : Found) (side : Side) (s : ℕ) (part : Part) → AreTouched code points → Both (keeps code sides (reads_at sides points.reads) side (pair s part) ≡ true) (Keeps code sides side s part)
