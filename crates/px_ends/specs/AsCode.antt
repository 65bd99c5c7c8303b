-- The theorem about code, its blocks and two ends.
use Rattle.std.specs.Prelude.{◌≡◌, ℕ, List, Option, unwrap_or}
use Rattle.px_value.specs.declared.value.Value.{Value}
use Rattle.px_value.specs.declared.value.Value.TheVariants.{Null}
use Rattle.px_value.specs.declared.object.Object.{Object}
use Rattle.px_value.specs.Outcome.{Outcome, Gives, Throws, Asks}
use Rattle.px_blocks.specs.declared.block.Statement.{Statement}
use Rattle.px_normal.specs.Run.{Traced}
use Rattle.px_effects.specs.Run.{Ask}
use Rattle.px_normal.specs.CodeRun.{code_run}
use Rattle.px_blocks.specs.Plan.{Plan}
use Rattle.px_blocks.specs.One.{Ended, Falls, Asks as Stays, all_ran, one_begun, reply_of}
use Rattle.px_blocks.specs.Rules.{IsCut}
use Rattle.px_blocks.specs.declared.placed.Placed.{Placed}
use Rattle.px_ends.specs.Agree.{at_app}
use Rattle.px_ends.specs.Runs.{Pair, pair_run, GoodRun}
use Rattle.px_ends.specs.Calls.{Rests, pair_begun, committed}
use Rattle.px_ends.specs.Sends.{Leads, IsPlacedCode, PointedRun}
use Rattle.px_ends.specs.Fits.{Points, IsPlainAsk, HeapFits, IsSoundPlan, IsEntryCall}

-- The call is at its end at two ends as in the run of code: the reply, the lines printed, the turns, what the world is after all that was asked of it, and the statements that ran. After the commit both ends have the heap that the code leaves.
pub record RepliesAs {W : Type 0} (plan : Plan) (p : Pair W) (v : Option Value) (g : Traced W) : Type 0 where
  pub reply : reply_of p.near.control ≡ unwrap_or v Null
  pub prints : p.near.prints ≡ g.shared.prints
  pub turns : p.near.control.turns ≡ g.shared.turns
  pub world : p.world ≡ g.shared.world
  pub operations : p.operations ≡ g.shared.operations
  pub ran : all_ran p.story ≡ g.ran
  pub rests : Rests plan p.near.heap (committed plan p.near p.far) g.shared.heap

-- a throw ends it, or it stops at an open question, as the run of code does
pub record StoppedAs {W : Type 0} (p : Pair W) (g : Traced W) : Type 0 where
  pub prints : at_app p.side p.near.prints p.far.prints ≡ g.shared.prints
  pub turns : p.near.control.turns ≡ g.shared.turns
  pub world : p.world ≡ g.shared.world
  pub operations : p.operations ≡ g.shared.operations
  pub ran : all_ran p.story ≡ g.ran

-- from here, in some number of blocks, two ends come to the end that a run of code has
abbrev pub PairRunsAs : {Q W : Type 0} → Plan → Ask Q W → Pair W → Outcome Q (Traced W) (Option Value) → Type 0
PairRunsAs {Q} {W} plan ask p (Gives v g) = (n : ℕ) × (last : Pair W) × (pair_run plan ask n p ≡ Ended last) × RepliesAs plan last v g
PairRunsAs {Q} {W} plan ask p (Throws t g) = (n : ℕ) × (last : Pair W) × (pair_run plan ask n p ≡ Falls t last) × StoppedAs last g
PairRunsAs {Q} {W} plan ask p (Asks q g) = (n : ℕ) × (s : Statement) × (last : Pair W) × (pair_run plan ask n p ≡ Stays q s last) × StoppedAs last g

-- A PAIR RUNS AS THE CODE. From two ends at rest with one heap, on the blocks into which the code is cut with its placement and sends, where the run on the one machine keeps what it reads and names what it writes.
abbrev pub PairRunsAsCode : Type 0 → Type 0 → Type 0
PairRunsAsCode Q W = (plan : Plan) (placed : Placed) → IsCut plan.code placed plan.blocks → (ask : Ask Q W) (method : ℕ) (args : List Value) (app db one : List Object) (world : W) → Rests plan app db one
    → ((n : ℕ) → GoodRun plan ask n (one_begun plan method args one world))
    → PairRunsAs plan ask (pair_begun plan method args app db world) (code_run plan.code ask one world method args)

-- The same, with no premise on blocks or sends but those of the cut: the code is placed, by node, so that each side keeps what it may read, and the send of each node names what it may write and the other side keeps; in the run on the one machine each receiver leads where it may.
abbrev pub PlacedCodeRuns : Type 0 → Type 0 → Type 0
PlacedCodeRuns Q W = (plan : Plan) (placed : Placed) (leads : ℕ → Leads) → IsCut plan.code placed plan.blocks → IsPlacedCode plan placed leads → (ask : Ask Q W) (method : ℕ) (args : List Value) (app db one : List Object) (world : W) → Rests plan app db one
    → ((n : ℕ) → PointedRun plan leads ask n (one_begun plan method args one world))
    → PairRunsAs plan ask (pair_begun plan method args app db world) (code_run plan.code ask one world method args)

-- And with no premise on any run: the blocks meet the inclusions of points-to, and keep and send by it; the heap fits, and neither arguments nor answers hold references.
abbrev pub SoundCodeRuns : Type 0 → Type 0 → Type 0
SoundCodeRuns Q W = (plan : Plan) (placed : Placed) (points : Points) → IsCut plan.code placed plan.blocks → IsSoundPlan plan points → (ask : Ask Q W) → IsPlainAsk ask → (method : ℕ) (args : List Value) (app db one : List Object) (world : W) → IsEntryCall plan points method args → HeapFits points one → Rests plan app db one
    → PairRunsAs plan ask (pair_begun plan method args app db world) (code_run plan.code ask one world method args)
