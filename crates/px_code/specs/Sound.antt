-- A plan that may stand in the place of code.
use Rattle.std.specs.Prelude.{◌≡◌, ℕ, ◌<◌, true, List, [], ◌∷◌, ◌++◌, length, Option, Some, unwrap_or, slice_get, Contains, ◌↔◌}
use Rattle.std.specs.List.{AllByRecursion}
use Rattle.px_value.specs.declared.value.Value.{Value}
use Rattle.px_value.specs.declared.value.Value.TheVariants.{Null, Ref}
use Rattle.px_value.specs.declared.object.Object.{Object}
use Rattle.px_value.specs.declared.header.Header.{Header}
use Rattle.px_value.specs.declared.header.Kind.{Kind}
use Rattle.px_value.specs.declared.header.Kind.TheVariants as kind
use Rattle.px_value.specs.declared.thrown.Thrown.{Thrown}
use Rattle.px_value.specs.Outcome.{Outcome, Gives, Throws, Asks}
use Rattle.px_code.specs.declared.side.Side.{Side}
use Rattle.px_code.specs.declared.side.Side.TheVariants.{App, Db}
use Rattle.px_code.specs.declared.cell.Cell.{Cell}
use Rattle.px_code.specs.declared.cell.Keep.{Keep}
use Rattle.px_code.specs.declared.cell.Part.{Part}
use Rattle.px_code.specs.declared.cell.Part.TheVariants.{Field as FieldPart, Elements}
use Rattle.px_code.specs.declared.cell.SitePart.{SitePart}
use Rattle.px_code.specs.declared.method.Method.{Method}
use Rattle.px_code.specs.declared.code.Code.{Code}
use Rattle.px_code.specs.declared.block.Block.{Block}
use Rattle.px_code.specs.declared.plan.Plan.{Plan}
use Rattle.px_code.specs.Places.{numbered, side_of, fields_in, site_kind, part_by}
use Rattle.px_code.specs.Points.{IsMethod}
use Rattle.px_code.specs.Sends.{Keeps}
use Rattle.px_code.specs.Fits.{Fits, header_at}
use Rattle.px_code.specs.CodeRun.{Ran, Traced, code_run}
use Rattle.px_code.specs.Frames.{root_frame, entry_frame}
use Rattle.px_code.specs.Machine.{Machine, steps, Threw, block_at, next_block, slots_at, value_in}
use Rattle.px_code.specs.Cut.{AreBlocks}

-- ---- what a call of an entry comes to

-- nothing asks the world yet, and no question is left open
abbrev pub CodeOutcome : Type 0
CodeOutcome = Outcome ⊥ (Traced (Unit {0})) (Option Value)

abbrev pub run_of : Code → List Object → ℕ → List Value → CodeOutcome
run_of code heap method args = code_run code heap tt method args

-- the arguments of an entry are numbers, truths and texts
abbrev pub IsNoReference : Value → Type 0
IsNoReference (Ref target) = ⊥
IsNoReference v = Unit {0}

-- A heap that fits, an entry, and arguments for it. The types of values don't matter: a plan is sound whatever they are.
pub record IsInput (code : Code) (heap : List Object) (number : ℕ) (args : List Value) : Type 0 where
  pub fits : Fits code heap
  pub method : Method
  pub is : IsMethod code number method
  pub entry : method.entry ≡ true
  pub counted : length args ≡ method.params
  pub plain : AllByRecursion IsNoReference args

-- the same reply, and the same heap where a call isn't undone
abbrev pub SameEnd : CodeOutcome → CodeOutcome → Type 0
SameEnd (Gives v s) (Gives w t) = (v ≡ w) × (s.shared.heap ≡ t.shared.heap)
SameEnd (Throws x s) (Throws y t) = x ≡ y
SameEnd (Asks q z) o = absurd q
SameEnd o (Asks q z) = absurd q
SameEnd _ _ = ⊥

-- ---- blocks, one after the other

pub data Ending : Type 0 where
  Finished : Ending
  Fell : Thrown → Ending

pub data RunsFrom (blocks : List Block) : ℕ → Machine → List Ran → Ending → Machine → Type 0 where
  finished : {m : Machine} → RunsFrom blocks 0 m [] Finished m
  runs : {n : ℕ} {m last : Machine} {b : Block} {ran : List Ran} {ending : Ending} → block_at blocks n ≡ Some b → ((t : Thrown) → (steps b.statements m).stop ≡ Threw t → ⊥) → RunsFrom blocks (next_block b.exit (steps b.statements m).stop) (steps b.statements m).machine ran ending last → RunsFrom blocks n m ((steps b.statements m).ran ++ ran) ending last
  falls : {n : ℕ} {m : Machine} {b : Block} {t : Thrown} → block_at blocks n ≡ Some b → (steps b.statements m).stop ≡ Threw t → RunsFrom blocks n m (steps b.statements m).ran (Fell t) (steps b.statements m).machine

-- a call begins on a heap with the frames of its entry
abbrev pub entered : Code → List Object → ℕ → List Value → Machine
entered code heap method args = record { heap = heap; frames = root_frame ∷ entry_frame code.methods method args ∷ []; base = 0; marks = []; named = [] }

abbrev pub first_block : Plan → ℕ → ℕ
first_block plan method = unwrap_or (numbered plan.blocks.firsts method) 0

-- the reply stands in the slot of the lowest frame
pub record RunsAs (plan : Plan) (begin : Machine) (method : ℕ) (heap : List Object) (ran : List Ran) (ending : Ending) (reply : Value) : Type 0 where
  pub last : Machine
  pub runs : RunsFrom plan.blocks.blocks (first_block plan method) begin ran ending last
  pub heap_is : last.heap ≡ heap
  pub reply_is : value_in (slots_at last.frames 0) 0 ≡ reply

abbrev pub BlocksRun : Plan → Machine → ℕ → CodeOutcome → Type 0
BlocksRun plan begin method (Gives v s) = RunsAs plan begin method s.shared.heap s.ran Finished (unwrap_or v Null)
BlocksRun plan begin method (Throws t s) = RunsAs plan begin method s.shared.heap s.ran (Fell t) Null
BlocksRun plan begin method (Asks q z) = absurd q

-- ---- what sides keep

abbrev pub kept_at : Keep → Side → List SitePart
kept_at keep App = keep.app
kept_at keep Db = keep.db

abbrev pub KindHasPart : Code → Option Kind → Part → Type 0
KindHasPart code (Some (kind.Object class)) (FieldPart place) = place < length (fields_in (slice_get code.classes class))
KindHasPart code (Some (kind.Array element)) Elements = Unit {0}
KindHasPart code (Some (kind.Rows statement)) Elements = Unit {0}
KindHasPart code _ part = ⊥

abbrev pub IsKeep : Code → List Side → Keep → Type 0
IsKeep code sides keep = (side : Side) (site : ℕ) (part : Part) → Contains (kept_at keep side) (record { site = site; part = part }) ↔ (KindHasPart code (site_kind code site) part × Keeps code sides side site part)

-- a cell that is read at a side is of a part that is kept there
abbrev pub IsKeptCell : Plan → List Object → Side → Cell → Type 0
IsKeptCell plan heap side c = (h : Header) → header_at heap c.object ≡ Some h → Contains (kept_at plan.keep side) (record { site = h.site; part = part_by h.kind c.index })

abbrev pub ReadsKept : Plan → List Object → Ran → Type 0
ReadsKept plan heap r = AllByRecursion (IsKeptCell plan heap (side_of plan.placement.sides r.node)) r.reads

abbrev pub AllReadsKept : Plan → CodeOutcome → Type 0
AllReadsKept plan (Gives v s) = AllByRecursion (ReadsKept plan s.shared.heap) s.ran
AllReadsKept plan (Throws t s) = AllByRecursion (ReadsKept plan s.shared.heap) s.ran
AllReadsKept plan (Asks q z) = absurd q

-- ---- a sound plan

-- The plan's code is as good as the code, its blocks are cut from it and run as it does, and each side keeps what its statements read. No statement prints yet, so none prints at DB.
pub record IsSound (plan : Plan) (code : Code) : Type 0 where
  pub same : (heap : List Object) (method : ℕ) (args : List Value) → IsInput code heap method args → SameEnd (run_of plan.code heap method args) (run_of code heap method args)
  pub runs : (heap : List Object) (method : ℕ) (args : List Value) → IsInput code heap method args → BlocksRun plan (entered plan.code heap method args) method (run_of plan.code heap method args)
  pub reads : (heap : List Object) (method : ℕ) (args : List Value) → IsInput code heap method args → AllReadsKept plan (run_of plan.code heap method args)
  pub keep : IsKeep plan.code plan.placement.sides plan.keep
  pub blocks : AreBlocks plan.code plan.placement.sides plan.blocks
