-- The theorems, whole.
use Rattle.std.specs.Prelude.{◌≡◌, ℕ, true}
use Rattle.px_blocks.specs.declared.side.Side.{Side}
use Rattle.px_blocks.specs.declared.block.Block.{Block}
use Rattle.px_blocks.specs.declared.block.Exit.{Exit}
use Rattle.px_blocks.specs.declared.block.Statement.{Statement}
use Rattle.px_blocks.specs.Sides.{other}
use Rattle.px_effects.specs.Act.{header_at, value_at}
use Rattle.px_effects.specs.Operations.{Said}
use Rattle.px_effects.specs.Run.{Ask}
use Rattle.px_blocks.specs.Plan.{Plan, kept}
use Rattle.px_blocks.specs.Machine.{Machine, step, answered, block_run}
use Rattle.px_blocks.specs.Message.{transfer, absorbed, emitted, handed}
use Rattle.px_blocks.specs.One.{One, one_step, one_answer, one_run}
use Rattle.px_ends.specs.Agree.{Split, Agree}
use Rattle.px_ends.specs.Runs.{Pair, GoodDeed, GoodTold, GoodSteps, GoodStep, GoodAnswer, GoodRun, StepsAlike, BlocksAlike, Agrees, SameStep, pair_step, pair_answer, pair_run}

-- a statement at near does what it does on the one machine
abbrev pub StepAgrees : Type 0
StepAgrees = (plan : Plan) (side : Side) (far : Machine) (n : ℕ) (e : Exit) (s : Statement) (near one : Machine) → Agree plan side near far one → GoodDeed plan side s.send one s.deed → StepsAlike plan side far (step plan n e s near) (step plan n e s one)

-- and so does one that hears what is said to its question
abbrev pub AnswerAgrees : Type 0
AnswerAgrees = (plan : Plan) (side : Side) (far : Machine) (s : Statement) (said : Said) (near one : Machine) → Agree plan side near far one → GoodTold plan side s.send said one s.deed → StepsAlike plan side far (answered plan s said near) (answered plan s said one)

-- a block with its exit: branches, calls, returns
abbrev pub BlockAgrees : Type 0
BlockAgrees = (plan : Plan) (side : Side) (far : Machine) (n : ℕ) (b : Block) (near one : Machine) → Agree plan side near far one → GoodSteps plan side n b.exit b.statements one → BlocksAlike plan side far (block_run plan n b near) (block_run plan n b one)

-- a value that a side reads of what it keeps is that of the one heap
abbrev pub ReadsCurrent : Type 0
ReadsCurrent = (plan : Plan) (side : Side) (near far one : Machine) (o i : ℕ) → Split plan side near far one → kept plan side (header_at one.heap o) i ≡ true → value_at near.heap o i ≡ value_at one.heap o i

-- the message is the one that the one machine would send; taken in, it makes the other end the side with control
pub record Crossed (plan : Plan) (side : Side) (n : ℕ) (near far one : Machine) : Type 0 where
  pub message : transfer plan n near.control near.heap ≡ transfer plan n one.control one.heap
  pub agree : Agree plan (other side) (absorbed plan (transfer plan n near.control near.heap) far) (emitted near) (handed one)

abbrev pub CrossAgrees : Type 0
CrossAgrees = (plan : Plan) (side : Side) (n : ℕ) (near far one : Machine) → Agree plan side near far one → Crossed plan side n near far one

-- a block at the end where it is, after a crossing if it is at the other end
abbrev pub PairStepAgrees : Type 0 → Type 0 → Type 0
PairStepAgrees Q W = (plan : Plan) (p : Pair W) (o : One W) → Agrees plan p o → GoodStep plan o → SameStep {Q = Q} plan (pair_step plan p) (one_step plan o)

-- what is said to the statement that waits
abbrev pub PairAnswerAgrees : Type 0 → Type 0 → Type 0
PairAnswerAgrees Q W = (plan : Plan) (s : Statement) (said : Said) (p : Pair W) (o : One W) → Agrees plan p o → GoodAnswer plan s said o → SameStep {Q = Q} plan (pair_answer plan s said p) (one_answer plan s said o)

-- a run at two ends, of any number of blocks and in any world, is the run on the one machine
abbrev pub RunAgrees : Type 0 → Type 0 → Type 0
RunAgrees Q W = (plan : Plan) (ask : Ask Q W) (n : ℕ) (p : Pair W) (o : One W) → Agrees plan p o → GoodRun plan ask n o → SameStep plan (pair_run plan ask n p) (one_run plan ask n o)
