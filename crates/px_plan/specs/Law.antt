-- That all prints are at APP exactly where no first one is at DB.
use Rattle.std.specs.Prelude.{◌≡◌, ℕ, List, None}
use Rattle.px_normal.specs.declared.word.Operand.{Operand}
use Rattle.px_normal.specs.declared.word.Word.TheVariants as w
use Rattle.px_normal.specs.declared.code.Code.{Code}
use Rattle.px_flow_points.specs.Statements.{HasStatement}
use Rattle.px_flow_points.specs.Laws.{Both}
use Rattle.px_blocks.specs.declared.side.Side.{Side}
use Rattle.px_blocks.specs.declared.side.Side.TheVariants.{App}
use Rattle.px_blocks.specs.Rules.{side_of}
use Rattle.px_plan.specs.Prints.{unpinned}

abbrev pub PrintsAtApp : Code → List Side → Type 0
PrintsAtApp code sides = (m node : ℕ) (a : Operand) → HasStatement code m node (w.Print a) → side_of sides node ≡ App

abbrev pub PinnedExactly : Type 0
PinnedExactly = (code : Code) (sides : List Side) → Both (unpinned code sides ≡ None) (PrintsAtApp code sides)
