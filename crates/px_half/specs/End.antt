-- One end of a session, as contracts see it, and what its calls do.
use Rattle.std.specs.Prelude.{◌≡◌, ℕ, zero, ◌<◌, Bool, true, false, List, [], ◌∷◌, length, map, Option, Some, None, unwrap_or, slice_get}
use Rattle.px_value.specs.declared.value.Value.{Value}
use Rattle.px_value.specs.declared.object.Object.{Object}
use Rattle.px_value.specs.declared.header.Kind.TheVariants as kind
use Rattle.px_value.specs.declared.ty.Ty.{Ty}
use Rattle.px_value.specs.Defaults.{default_of}
use Rattle.px_value.specs.Heap.{max_counted}
use Rattle.px_code.specs.declared.side.Side.{Side}
use Rattle.px_code.specs.declared.side.Side.TheVariants.{App}
use Rattle.px_code.specs.declared.class.Class.{Class}
use Rattle.px_code.specs.declared.method.Method.{Method}
use Rattle.px_code.specs.declared.code.Code.{Code}
use Rattle.px_code.specs.declared.block.Block.{Block}
use Rattle.px_code.specs.declared.plan.Plan.{Plan}
use Rattle.px_code.specs.declared.reply.Reply.{Reply}
use Rattle.px_code.specs.declared.reply.Reply.TheVariants as reply
use Rattle.px_code.specs.Places.{numbered, same_side}
use Rattle.px_code.specs.Frames.{root_frame, entry_frame}
use Rattle.px_code.specs.CodeRun.{Ran, method_at}
use Rattle.px_code.specs.Machine.{Machine, Stepped, steps, Stop, Threw, block_at, next_block, value_in, slots_at}
use Rattle.px_half.specs.declared.step.Step.{Step}
use Rattle.px_half.specs.declared.step.Step.TheVariants as step

pub record End : Type 0 where
  pub side : Side
  pub plans : List Plan
  -- the plan in use, by number from 0
  pub part : ℕ
  pub in_call : Bool
  -- the method that was called
  pub entry : ℕ
  -- the present block
  pub block : ℕ
  pub turns : ℕ
  -- how many objects the other end has
  pub known : ℕ
  pub machine : Machine
  -- the heap as it was after the last close, or as new
  pub closed : List Object

-- the same end, whatever it did
pub record IsSameEnd (old new : End) : Type 0 where
  pub side : new.side ≡ old.side
  pub plans : new.plans ≡ old.plans
  pub part : new.part ≡ old.part
  pub entry : new.entry ≡ old.entry

-- ---- the plan in use

abbrev pub plan_at : End → Option Plan
plan_at e = slice_get e.plans e.part

abbrev pub blocks_in : Option Plan → List Block
blocks_in None = []
blocks_in (Some plan) = plan.blocks.blocks

abbrev pub methods_in : Option Plan → List Method
methods_in None = []
methods_in (Some plan) = plan.code.methods

abbrev pub firsts_in : Option Plan → List ℕ
firsts_in None = []
firsts_in (Some plan) = plan.blocks.firsts

-- ---- a new session

abbrev pub fields_of : Option Class → List Ty
fields_of None = []
fields_of (Some class) = map (λ f. f.ty) class.fields

abbrev pub class_defaults : Code → ℕ → List Value
class_defaults code class = map default_of (fields_of (slice_get code.classes class))

-- an object of Main, made at site 0
abbrev pub first_object : Code → Object
first_object code = record {
  header = record { kind = kind.Object code.main; site = 0; length = length (class_defaults code code.main) };
  cells = class_defaults code code.main;
}

-- an object of Main fits into a heap
abbrev pub HasSmallMain : Option Plan → Type 0
HasSmallMain None = Unit {0}
HasSmallMain (Some plan) = length (class_defaults plan.code plan.code.main) < max_counted

abbrev pub first_objects : Option Plan → List Object
first_objects None = []
first_objects (Some plan) = first_object plan.code ∷ []

abbrev pub at_rest : List Object → Machine
at_rest heap = record { heap = heap; frames = []; base = 0; marks = []; named = [] }

-- an end as new, with the first plan
abbrev pub new_end : Side → List Plan → End
new_end side plans = record {
  side = side;
  plans = plans;
  part = 0;
  in_call = false;
  entry = 0;
  block = 0;
  turns = 0;
  known = length (first_objects (slice_get plans 0));
  machine = at_rest (first_objects (slice_get plans 0));
  closed = first_objects (slice_get plans 0);
}

-- ---- the begin of a call

-- the first block of a method
abbrev pub first_block : Option Plan → ℕ → ℕ
first_block plan method = unwrap_or (numbered (firsts_in plan) method) 0

-- `this` and the arguments are written, and nothing else
abbrev pub begun : ℕ → List Value → End → End
begun method args e = record e {
  in_call = true;
  entry = method;
  block = first_block (plan_at e) method;
  turns = 0;
  machine = record e.machine { frames = root_frame ∷ entry_frame (methods_in (plan_at e)) method args ∷ []; base = 0 };
}

abbrev pub attended : End → End
attended e = record e { in_call = true; machine = record e.machine { frames = []; base = 0 } }

-- ---- blocks

-- block 0 is at APP
abbrev pub block_side : Option Block → Side
block_side None = App
block_side (Some block) = block.side

abbrev pub side_of_block : List Block → ℕ → Side
side_of_block blocks n = block_side (block_at blocks n)

-- what a call of `run_block` answers, the end that it leaves, and the statements that ran
pub record BlockRun : Type 0 where
  pub answer : Step
  pub after : End
  pub ran : List Ran

abbrev pub crosses : Bool → Step
crosses true = step.Next
crosses false = step.Cross

abbrev pub after_block : List Block → Block → End → Stepped → Stop → BlockRun
after_block blocks block e s (Threw t) = record { answer = step.Threw t; after = record e { machine = s.machine }; ran = s.ran }
after_block blocks block e s stop =
    let next = next_block block.exit stop in
    record { answer = crosses (same_side e.side (side_of_block blocks next)); after = record e { machine = s.machine; block = next }; ran = s.ran }

abbrev pub run_here : List Block → Block → End → Stepped → BlockRun
run_here blocks block e s = after_block blocks block e s s.stop

abbrev pub runs_nothing : Step → End → BlockRun
runs_nothing answer e = record { answer = answer; after = e; ran = [] }

abbrev pub block_run_if : Bool → List Block → Block → End → BlockRun
block_run_if true blocks block e = run_here blocks block e (steps block.statements e.machine)
block_run_if false blocks block e = runs_nothing step.Cross e

-- at block 0 the call has ended, at APP
abbrev pub without_block : Side → ℕ → Step
without_block App zero = step.Done
without_block side n = step.Cross

abbrev pub block_run_of : Option Block → List Block → End → BlockRun
block_run_of None blocks e = runs_nothing (without_block e.side e.block) e
block_run_of (Some block) blocks e = block_run_if (same_side e.side block.side) blocks block e

abbrev pub block_run : End → BlockRun
block_run e = block_run_of (block_at (blocks_in (plan_at e)) e.block) (blocks_in (plan_at e)) e

-- ---- the end of a call

abbrev pub gives_in : Option Method → Option Ty
gives_in None = None
gives_in (Some m) = m.gives

abbrev pub reply_of : Option Ty → Value → Reply
reply_of None v = reply.Void
reply_of (Some t) v = reply.Value v

-- the reply stands in the slot of the lowest frame
abbrev pub reply_at : End → Reply
reply_at e = reply_of (gives_in (method_at (methods_in (plan_at e)) e.entry)) (value_in (slots_at e.machine.frames 0) 0)

abbrev pub rested : List Object → End → End
rested heap e = record e { in_call = false; known = length heap; machine = at_rest heap; closed = heap }

-- what was done since the last close is kept
abbrev pub closed_now : End → End
closed_now e = rested e.machine.heap e

-- or taken back
abbrev pub rolled_back : End → End
rolled_back e = rested e.closed e
