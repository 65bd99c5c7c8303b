-- Theorems about code and its blocks.
use Rattle.std.specs.Prelude.{◌≡◌, ℕ, List, [], ◌∷◌, ◌++◌, Option, unwrap_or}
use Rattle.px_value.specs.declared.value.Value.{Value}
use Rattle.px_value.specs.declared.value.Value.TheVariants.{Null}
use Rattle.px_value.specs.declared.object.Object.{Object}
use Rattle.px_value.specs.declared.answer.Answer.{Answer}
use Rattle.px_value.specs.declared.statement.TableOp.{TableOp}
use Rattle.px_value.specs.Outcome.{Outcome, Gives, Throws, Asks as LeavesOpen}
use Rattle.px_effects.specs.Run.{Ask}
use Rattle.px_effects.specs.Operations.{Answers}
use Rattle.px_normal.specs.declared.code.Code.{Code}
use Rattle.px_normal.specs.Run.{Traced}
use Rattle.px_normal.specs.CodeRun.{code_run}
use Rattle.px_blocks.specs.declared.block.Statement.{Statement}
use Rattle.px_blocks.specs.declared.block.Blocks.{Blocks}
use Rattle.px_blocks.specs.Plan.{Plan}
use Rattle.px_blocks.specs.One.{One, Step, Goes, Ended, Falls, Asks, Leads, one_answer, one_begun, reply_of, traced}
use Rattle.px_blocks.specs.Rules.{Placed, IsCut}
use Rattle.px_blocks.specs.Cutter.{cut}

-- From here the blocks run to the end that a run of code has: to its result, which is null where there is none, its throw, or its open question; with the same heap, world, printed lines, counts of turns and of operations, and statements that ran.
abbrev pub RunsAs : {Q W : Type 0} → Plan → Ask Q W → Step Q (One W) → Outcome Q (Traced W) (Option Value) → Type 0
RunsAs {Q} {W} plan ask x (Gives v g) = (last : One W) × Leads plan ask x (Ended last) × (traced last ≡ g) × (reply_of last.machine.control ≡ unwrap_or v Null)
RunsAs {Q} {W} plan ask x (Throws t g) = (last : One W) × Leads plan ask x (Falls t last) × (traced last ≡ g)
RunsAs {Q} {W} plan ask x (LeavesOpen q g) = (s : Statement) × (last : One W) × Leads plan ask x (Asks q s last) × (traced last ≡ g)

-- THE BLOCKS RUN AS THE CODE. The one machine on the blocks into which the code is cut comes to the end that the code comes to.
abbrev pub BlocksRunAsCode : Type 0 → Type 0 → Type 0
BlocksRunAsCode Q W = (plan : Plan) (placed : Placed) → IsCut plan.code placed plan.blocks → (ask : Ask Q W) (heap : List Object) (world : W) (method : ℕ) (args : List Value) →
    RunsAs plan ask (Goes (one_begun plan method args heap world)) (code_run plan.code ask heap world method args)

-- answers that are written down in a list; an operation that finds none is an open question
abbrev pub by_list : Ask TableOp (List Answer)
by_list op [] = LeavesOpen op []
by_list op (answer ∷ answers) = Gives answer answers

-- Where the machine stops at an operation, its answer put in and the blocks that follow are the run of the code with one more answer.
abbrev pub AnswersContinue : Type 0
AnswersContinue = (plan : Plan) (placed : Placed) → IsCut plan.code placed plan.blocks → (heap : List Object) (answers : List Answer) (method : ℕ) (args : List Value) (op : TableOp) (s : Statement) (last : One (List Answer)) →
    Leads plan by_list (Goes (one_begun plan method args heap answers)) (Asks op s last) → (answer : Answer) →
    RunsAs plan by_list (one_answer plan s (Answers answer) last) (code_run plan.code by_list heap (answers ++ answer ∷ []) method args)

-- the rules leave one way to cut code
abbrev pub CutIsOne : Type 0
CutIsOne = (code : Code) (placed : Placed) (xs ys : Blocks) → IsCut code placed xs → IsCut code placed ys → xs ≡ ys

-- and there is one
abbrev pub CodeIsCut : Type 0
CodeIsCut = (code : Code) (placed : Placed) → IsCut code placed (cut code placed)
