-- A call at two ends: blocks that run at the end with control, and messages that hand control over.
use Rattle.std.specs.Prelude.{◌≡◌, ℕ, List, [], ◌++◌, Some}
use Rattle.std.specs.List.{AllByRecursion}
use Rattle.px_value.specs.declared.thrown.Thrown.{Thrown}
use Rattle.px_code.specs.declared.side.Side.{Side}
use Rattle.px_code.specs.declared.side.Side.TheVariants.{App}
use Rattle.px_code.specs.declared.block.Block.{Block}
use Rattle.px_code.specs.declared.plan.Plan.{Plan}
use Rattle.px_code.specs.Places.{other}
use Rattle.px_code.specs.Fits.{Fits}
use Rattle.px_code.specs.CodeRun.{Ran}
use Rattle.px_code.specs.Cut.{IsPlaced}
use Rattle.px_code.specs.Law.{AreStatements, NoLiteralReference, MachineFits}
use Rattle.px_code.specs.Machine.{Machine, steps, Threw, block_at, next_block, exit_to}
use Rattle.px_code.specs.Sound.{Ending, Finished, Fell, RunsFrom}
use Rattle.px_wire.specs.declared.transfer.Transfer.{Transfer}
use Rattle.px_half.specs.Absorbed.{with_transfer}
use Rattle.px_pair.specs.Agree.{Agree}
use Rattle.px_pair.specs.Law.{NamesClasses}
use Rattle.px_pair.specs.Crossing.{FramesLike, bare, Tells, quiet}

-- From a side with control, its machine and the other one, at a block: the statements that run, how it ends, and the side, the machines and the statements so far.
-- A block runs at its side; a message may hand control over before any block, where the other end takes it in; at block 0 a call has ended, at APP.
pub data RunsAtBoth (plan : Plan) : Side → Machine → Machine → ℕ → List Ran → Ending → Side → Machine → Machine → Type 0 where
  finished : {near far : Machine} → RunsAtBoth plan App near far 0 [] Finished App near far
  runs : {side last : Side} {near far last_near last_far : Machine} {n : ℕ} {b : Block} {ran : List Ran} {ending : Ending}
      → block_at plan.blocks.blocks n ≡ Some b → b.side ≡ side → ((t : Thrown) → (steps b.statements near).stop ≡ Threw t → ⊥)
      → RunsAtBoth plan side (steps b.statements near).machine far (next_block b.exit (steps b.statements near).stop) ran ending last last_near last_far
      → RunsAtBoth plan side near far n ((steps b.statements near).ran ++ ran) ending last last_near last_far
  falls : {side : Side} {near far : Machine} {n : ℕ} {b : Block} {t : Thrown}
      → block_at plan.blocks.blocks n ≡ Some b → b.side ≡ side → (steps b.statements near).stop ≡ Threw t
      → RunsAtBoth plan side near far n (steps b.statements near).ran (Fell t) side (steps b.statements near).machine far
  crosses : {side last : Side} {near far new last_near last_far : Machine} {n : ℕ} {t : Transfer} {ran : List Ran} {ending : Ending}
      → Tells plan near t → t.block ≡ n → with_transfer plan t far ≡ Some new
      → RunsAtBoth plan (other side) new (quiet near) n ran ending last last_near last_far
      → RunsAtBoth plan side near far n ran ending last last_near last_far

-- a block of a plan whose sends stand where they have to; one that doesn't return leads to a block of its method
pub record IsGoodBlock (plan : Plan) (b : Block) : Type 0 where
  pub placed : AllByRecursion (IsPlaced plan.code plan.placement.sides b) b.statements
  pub are : AreStatements plan.code b.method b.statements
  pub plain : NoLiteralReference b.statements
  pub next : (c : Block) → block_at plan.blocks.blocks (exit_to b.exit) ≡ Some c → c.method ≡ b.method

abbrev pub AreGoodBlocks : Plan → Type 0
AreGoodBlocks plan = (n : ℕ) (b : Block) → block_at plan.blocks.blocks n ≡ Some b → IsGoodBlock plan b

-- the one heap does the same: the same statements run, with the same reads and writes, it ends alike, and both ends have that heap and stack
pub record CallAgrees (plan : Plan) (one : Machine) (n : ℕ) (ran : List Ran) (ending : Ending) (side : Side) (near far : Machine) : Type 0 where
  pub last : Machine
  pub runs : RunsFrom plan.blocks.blocks n one ran ending last
  pub agree : Agree plan side near far last

abbrev pub CallsAgree : Type 0
CallsAgree = (plan : Plan) → NamesClasses plan.code → AreGoodBlocks plan
    → (side last : Side) (near far last_near last_far : Machine) (n : ℕ) (ran : List Ran) (ending : Ending) → RunsAtBoth plan side near far n ran ending last last_near last_far
    → (one : Machine) → Agree plan side near far one → FramesLike near.frames (bare plan near far) → Fits plan.code one.heap → ((b : Block) → block_at plan.blocks.blocks n ≡ Some b → MachineFits plan.code b.method one)
    → CallAgrees plan one n ran ending last last_near last_far
