-- That the blocks of code are fixed by the code and its placement.
use Rattle.std.specs.Prelude.{◌≡◌, List}
use Rattle.px_code.specs.declared.side.Side.{Side}
use Rattle.px_code.specs.declared.code.Code.{Code}
use Rattle.px_code.specs.declared.block.Blocks.{Blocks}
use Rattle.px_code.specs.Cut.{AreBlocks}

abbrev pub CutIsOne : Type 0
CutIsOne = (code : Code) (sides : List Side) (xs ys : Blocks) → AreBlocks code sides xs → AreBlocks code sides ys → xs ≡ ys
