-- What is proved of accepted programs at two ends.
use Rattle.std.specs.Prelude.{◌≡◌, ℕ, List, Option, Some, slice_get}
use Rattle.std.specs.List.{AllByRecursion}
use Rattle.px_value.specs.declared.value.Value.{Value}
use Rattle.px_value.specs.declared.object.Object.{Object}
use Rattle.px_value.specs.declared.schema.Schema.{Schema}
use Rattle.px_value.specs.Outcome.{Outcome}
use Rattle.px_tree.specs.declared.Program.{Program}
use Rattle.px_facts.specs.declared.checked.Entry.{Entry}
use Rattle.px_effects.specs.Run.{Ask}
use Rattle.px_types.specs.Checked.{facts_of, checked_of}
use Rattle.px_soundness.specs.Laws.{IsAccepted}
use Rattle.px_mean.specs.Program.{source_from}
use Rattle.px_mean.specs.Entry.{exec}
use Rattle.px_normal.specs.declared.word.Operand.{Operand}
use Rattle.px_normal.specs.declared.word.Word.TheVariants as w
use Rattle.px_normal.specs.declared.code.Code.{Code}
use Rattle.px_normal.specs.Run.{Traced, untraced}
use Rattle.px_lowering.specs.Programs.{lowered}
use Rattle.px_flow_points.specs.Statements.{HasStatement}
use Rattle.px_flow_points.specs.Exact.{ArePoints}
use Rattle.px_flow_points.specs.ByNode.{Found, AreTouched}
use Rattle.px_blocks.specs.declared.side.Side.{Side}
use Rattle.px_blocks.specs.declared.side.Side.TheVariants.{App}
use Rattle.px_blocks.specs.declared.block.Blocks.{Blocks}
use Rattle.px_blocks.specs.declared.placed.Placed.{Placed}
use Rattle.px_blocks.specs.Rules.{side_of, IsCut}
use Rattle.px_sync.specs.Sends.{HasSends}
use Rattle.px_plan.specs.Compiled.{IsCompiled}
use Rattle.px_plan.specs.declared.plan.Compiled.{Compiled}
use Rattle.px_ends.specs.Calls.{Rests, Attempt, pair_begun}
use Rattle.px_ends.specs.Fits.{IsPlain, IsPlainAsk, HeapFits, SessionServed}
use Rattle.px_ends.specs.AsCode.{PairRunsAs}
use Rattle.px_sound_plans.specs.Plans.{plan_of, points_of}
use Rattle.px_sound_plans.specs.Laws.{IsPlacedWell}
use Rattle.px_sound_plans.specs.Runs.{first_heap}

abbrev pub code_of : Program → Schema → Code
code_of program schema = lowered (checked_of program schema)

-- code with what points-to found, at a placement that prints at APP, with the sends that it needs, cut into blocks
pub record IsSplit (code : Code) (found : Found) (sides : List Side) (placed : Placed) (blocks : Blocks) : Type 0 where
  pub points : ArePoints code found.sets
  pub touched : AreTouched code found
  pub prints : (m node : ℕ) (a : Operand) → HasStatement code m node (w.Print a) → side_of sides node ≡ App
  pub sends : HasSends code sides placed
  pub cut : IsCut code placed blocks

-- what is compiled is split so
abbrev pub CompiledIsSplit : Type 0
CompiledIsSplit = (code : Code) (found : Found) (sides : List Side) (c : Compiled) → ArePoints code found.sets → AreTouched code found → IsCompiled code sides c → IsSplit code found sides c.placed c.blocks

-- a call of an entry of the program, with arguments that hold no references
pub record IsCallOf (program : Program) (schema : Schema) (number : ℕ) (args : List Value) : Type 0 where
  pub place : ℕ
  pub entry : Entry
  pub is : slice_get (facts_of schema program).main.entries place ≡ Some entry
  pub number_is : entry.method ≡ number
  pub plain : AllByRecursion IsPlain args

-- the code of an accepted program is placed well
abbrev pub AcceptedIsPlacedWell : Type 0
AcceptedIsPlacedWell = (bytes : List ℕ) (program : Program) (schema : Schema) → IsAccepted bytes program schema
    → (found : Found) (sides : List Side) (placed : Placed) (blocks : Blocks) → IsSplit (code_of program schema) found sides placed blocks → IsPlacedWell (code_of program schema) found sides placed

-- from here two ends come to the end that a run of the program has
pub record RunsAsProgram {Q W : Type 0} (program : Program) (schema : Schema) (found : Found) (sides : List Side) (blocks : Blocks) (ask : Ask Q W) (number : ℕ) (args : List Value) (app db one : List Object) (world : W) : Type 0 where
  pub run : Outcome Q (Traced W) (Option Value)
  pub pair : PairRunsAs (plan_of (code_of program schema) sides found blocks) ask (pair_begun (plan_of (code_of program schema) sides found blocks) number args app db world) run
  pub means : exec ask (source_from (checked_of program schema)) one world number args ≡ untraced run

-- TWO ENDS RUN A PROGRAM AS IT MEANS. A call of an entry at two ends at rest, with one heap that fits, asks, replies and prints as the program does, and leaves both ends at rest with the heap that the program leaves.
abbrev pub CallsRunAsPrograms : Type 0 → Type 0 → Type 0
CallsRunAsPrograms Q W = (bytes : List ℕ) (program : Program) (schema : Schema) → IsAccepted bytes program schema
    → (found : Found) (sides : List Side) (placed : Placed) (blocks : Blocks) → IsSplit (code_of program schema) found sides placed blocks
    → (ask : Ask Q W) → IsPlainAsk ask → (number : ℕ) (args : List Value) (app db one : List Object) (world : W) → IsCallOf program schema number args
    → HeapFits (points_of (code_of program schema) found.sets) one → Rests (plan_of (code_of program schema) sides found blocks) app db one
    → RunsAsProgram program schema found sides blocks ask number args app db one world

-- All calls of a session, from its first heap on, of which some are undone, leave both ends at rest, with a heap that fits again, and read nothing stale.
abbrev pub SessionsOfPrograms : Type 0 → Type 0 → Type 0
SessionsOfPrograms Q W = (bytes : List ℕ) (program : Program) (schema : Schema) → IsAccepted bytes program schema
    → (found : Found) (sides : List Side) (placed : Placed) (blocks : Blocks) → IsSplit (code_of program schema) found sides placed blocks
    → (ask : Ask Q W) → IsPlainAsk ask → (attempts : List (Attempt W)) → AllByRecursion (λ (a : Attempt W). IsCallOf program schema a.method a.args) attempts
    → SessionServed (plan_of (code_of program schema) sides found blocks) (points_of (code_of program schema) found.sets) ask attempts (record { app = first_heap (code_of program schema); db = first_heap (code_of program schema) }) (first_heap (code_of program schema))
