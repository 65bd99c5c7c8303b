-- What is proved of the plan of code at a placement.
use Rattle.std.specs.Prelude.{◌≡◌, ℕ, List}
use Rattle.px_normal.specs.declared.word.Operand.{Operand}
use Rattle.px_normal.specs.declared.word.Word.{Word}
use Rattle.px_normal.specs.declared.word.Word.TheVariants as w
use Rattle.px_normal.specs.declared.code.Code.{Code}
use Rattle.px_normal.specs.Typed.{IsTyped}
use Rattle.px_flow_points.specs.Statements.{HasStatement}
use Rattle.px_flow_points.specs.Exact.{ArePoints}
use Rattle.px_flow_points.specs.ByNode.{Found, AreTouched}
use Rattle.px_flow_points.specs.There.{NumbersExist}
use Rattle.px_blocks.specs.declared.side.Side.{Side}
use Rattle.px_blocks.specs.declared.side.Side.TheVariants.{App}
use Rattle.px_blocks.specs.declared.block.Blocks.{Blocks}
use Rattle.px_blocks.specs.declared.placed.Placed.{Placed}
use Rattle.px_blocks.specs.Rules.{side_of, IsCut}
use Rattle.px_sync.specs.Sends.{IsOwn, HasSends}
use Rattle.px_ends.specs.Sends.{IsPlacedByMethod}
use Rattle.px_ends.specs.Fits.{leads_of, IsSoundPlan}
use Rattle.px_sound_plans.specs.Plans.{plan_of, points_of}

-- typed code, each of whose statements has a node of its own, with what points-to found, at a placement that prints at APP, with the sends that it needs
pub record IsPlacedWell (code : Code) (found : Found) (sides : List Side) (placed : Placed) : Type 0 where
  pub typed : IsTyped code
  pub exist : NumbersExist code
  pub points : ArePoints code found.sets
  pub touched : AreTouched code found
  pub own : (m node : ℕ) (word : Word) → HasStatement code m node word → IsOwn code node
  pub prints : (m node : ℕ) (a : Operand) → HasStatement code m node (w.Print a) → side_of sides node ≡ App
  pub sends : HasSends code sides placed

-- Each side keeps what its statements may read, and each send names what its statement may write and the other side keeps.
abbrev pub PlacedByMethod : Type 0
PlacedByMethod = (code : Code) (found : Found) (sides : List Side) (placed : Placed) (blocks : Blocks) → IsPlacedWell code found sides placed → IsPlacedByMethod (plan_of code sides found blocks) placed (leads_of (points_of code found.sets))

-- The blocks into which such code is cut make a sound plan.
abbrev pub PlansAreSound : Type 0
PlansAreSound = (code : Code) (found : Found) (sides : List Side) (placed : Placed) (blocks : Blocks) → IsPlacedWell code found sides placed → IsCut code placed blocks → IsSoundPlan (plan_of code sides found blocks) (points_of code found.sets)
