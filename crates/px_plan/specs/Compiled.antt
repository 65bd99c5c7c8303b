-- Code at a placement, with its sends, cut into blocks.
use Rattle.std.specs.Prelude.{◌≡◌, List, None}
use Rattle.px_normal.specs.declared.code.Code.{Code}
use Rattle.px_blocks.specs.declared.side.Side.{Side}
use Rattle.px_blocks.specs.Rules.{IsCut}
use Rattle.px_sync.specs.Sends.{HasSends}
use Rattle.px_plan.specs.Prints.{unpinned}
use Rattle.px_plan.specs.declared.plan.Compiled.{Compiled}

-- no statement prints at DB, and each stands in its block with the send that it needs
pub record IsCompiled (code : Code) (sides : List Side) (c : Compiled) : Type 0 where
  pub pinned : unpinned code sides ≡ None
  pub sends : HasSends code sides c.placed
  pub cut : IsCut code c.placed c.blocks
