-- What is proved of calls at two ends of placed code.
use Rattle.std.specs.Prelude.{◌≡◌, ℕ, true, List, [], ◌∷◌}
use Rattle.std.specs.List.{AllByRecursion}
use Rattle.px_value.specs.declared.value.Value.{Value}
use Rattle.px_value.specs.declared.object.Object.{Object}
use Rattle.px_effects.specs.Run.{Ask}
use Rattle.px_normal.specs.declared.method.Method.{Method}
use Rattle.px_normal.specs.declared.code.Code.{Code}
use Rattle.px_normal.specs.First.{fresh_of}
use Rattle.px_normal.specs.CodeRun.{code_run}
use Rattle.px_flow_points.specs.Statements.{IsMethod}
use Rattle.px_flow_points.specs.ByNode.{Found}
use Rattle.px_blocks.specs.declared.side.Side.{Side}
use Rattle.px_blocks.specs.declared.block.Blocks.{Blocks}
use Rattle.px_blocks.specs.declared.placed.Placed.{Placed}
use Rattle.px_blocks.specs.Rules.{IsCut}
use Rattle.px_ends.specs.Calls.{Rests, Attempt, pair_begun}
use Rattle.px_ends.specs.Fits.{IsPlain, IsPlainAsk, HeapFits, SessionServed}
use Rattle.px_ends.specs.AsCode.{PairRunsAs}
use Rattle.px_sound_plans.specs.Plans.{main_header, plan_of, points_of}
use Rattle.px_sound_plans.specs.Laws.{IsPlacedWell}

-- a call of an entry, with arguments that hold no references
pub record IsCall (code : Code) (number : ℕ) (args : List Value) : Type 0 where
  pub method : Method
  pub is : IsMethod code number method
  pub entry : method.entry ≡ true
  pub plain : AllByRecursion IsPlain args

-- the first heap of a session: one object, of the main class
abbrev pub first_heap : Code → List Object
first_heap code = record { header = main_header code; cells = fresh_of code code.main } ∷ []

abbrev pub FirstHeapFits : Type 0
FirstHeapFits = (code : Code) (found : Found) → HeapFits (points_of code found.sets) (first_heap code)

-- A call at two ends at rest, whose heap fits, runs as the code: it asks, replies and prints alike, and leaves both ends at rest with the heap that the code leaves.
abbrev pub CallsRunAsCode : Type 0 → Type 0 → Type 0
CallsRunAsCode Q W = (code : Code) (found : Found) (sides : List Side) (placed : Placed) (blocks : Blocks) → IsPlacedWell code found sides placed → IsCut code placed blocks
    → (ask : Ask Q W) → IsPlainAsk ask → (number : ℕ) (args : List Value) (app db one : List Object) (world : W) → IsCall code number args → HeapFits (points_of code found.sets) one → Rests (plan_of code sides found blocks) app db one
    → PairRunsAs (plan_of code sides found blocks) ask (pair_begun (plan_of code sides found blocks) number args app db world) (code_run code ask one world number args)

-- All calls of a session, of which some are undone, leave both ends at rest, with a heap that fits again, and read nothing stale.
abbrev pub SessionsServed : Type 0 → Type 0 → Type 0
SessionsServed Q W = (code : Code) (found : Found) (sides : List Side) (placed : Placed) (blocks : Blocks) → IsPlacedWell code found sides placed → IsCut code placed blocks
    → (ask : Ask Q W) → IsPlainAsk ask → (attempts : List (Attempt W)) → AllByRecursion (λ (a : Attempt W). IsCall code a.method a.args) attempts
    → SessionServed (plan_of code sides found blocks) (points_of code found.sets) ask attempts (record { app = first_heap code; db = first_heap code }) (first_heap code)
