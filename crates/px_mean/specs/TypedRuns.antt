-- What the world answers to a typed program, and what calls of it leave.
use Rattle.std.specs.Prelude.{◌≡◌, ℕ, ◌<◌, Bool, true, List, [], ◌∷◌, length, map, Some, None, unwrap_or, slice_get}
use Rattle.px_value.specs.declared.object.Object.{Object}
use Rattle.px_value.specs.declared.header.Kind.TheVariants as kind
use Rattle.px_value.specs.declared.statement.Statement.{Statement}
use Rattle.px_value.specs.declared.statement.Statement.TheVariants as statement
use Rattle.px_value.specs.declared.statement.TableOp.{TableOp}
use Rattle.px_value.specs.declared.answer.Answer.{Answer}
use Rattle.px_value.specs.declared.answer.Answer.TheVariants.{Rows, Count, Refused}
use Rattle.px_value.specs.Outcome.{Gives}
use Rattle.px_facts.specs.declared.checked.Entry.{Entry}
use Rattle.px_facts.specs.declared.checked.Facts.{Facts}
use Rattle.px_facts.specs.declared.operation.Operation.{Operation}
use Rattle.px_code.specs.declared.reply.Reply.{Reply}
use Rattle.px_code.specs.declared.reply.Reply.TheVariants as reply
use Rattle.px_mean.specs.Facts.{by_number}
use Rattle.px_mean.specs.Operations.{Ask}
use Rattle.px_mean.specs.Entry.{Called}
use Rattle.px_mean.specs.Serial.{Call, Stand}
use Rattle.px_mean.specs.Typed.{kind_at, HasType, HaveTypes, AllKept, IsTypedHeap}
use Rattle.px_mean.specs.Typing.{is_select, inner_type, given_type}

-- ---- the world

-- only a statement that selects is answered with rows
abbrev pub IsAnswerTo : Statement → Answer → Type 0
IsAnswerTo s (Rows width cells) = (is_select s ≡ true) × AllKept cells
IsAnswerTo s (Count n) = Unit {0}
IsAnswerTo s Refused = Unit {0}

-- what a typed program asks of the tables: one of its own operations, with as many parameters as it has
pub record IsAsked (F : Facts) (o : TableOp) : Type 0 where
  pub number : ℕ
  pub operation : Operation
  pub operation_is : by_number F.operations number ≡ Some operation
  pub statement : o.statement ≡ operation.statement
  pub count : length o.params ≡ length operation.params
  pub kept : AllKept o.params

-- a test of a world
abbrev pub Passes : {W : Type 0} → (W → Bool) → W → Type 0
Passes test world = test world ≡ true

-- the world keeps this, and answers what may be answered
abbrev pub AnswersTyped : {Q W : Type 0} → Facts → Ask Q W → (W → Type 0) → Type 0
AnswersTyped {Q} {W} F ask I = (o : TableOp) (world : W) → I world → IsAsked F o → (a : Answer) (to : W) → ask o world ≡ Gives a to → I to × IsAnswerTo o.statement a

-- how wide the rows of a table are
abbrev pub width_at : List ℕ → ℕ → ℕ
width_at widths table = unwrap_or (slice_get widths table) 0

abbrev pub AllBelow : ℕ → List ℕ → Type 0
AllBelow n [] = Unit {0}
AllBelow n (c ∷ cs) = (c < n) × AllBelow n cs

-- it reads columns that there are, and adds a row that is wide enough
abbrev pub FitsTables : List ℕ → Statement → ℕ → Type 0
FitsTables widths (statement.ByKey table columns) count = AllBelow (width_at widths table) columns
FitsTables widths (statement.ByColumn table columns column) count = AllBelow (width_at widths table) columns
FitsTables widths (statement.All table columns) count = AllBelow (width_at widths table) columns
FitsTables widths (statement.Update table columns) count = Unit {0}
FitsTables widths (statement.Insert table) count = count ≡ width_at widths table
FitsTables widths (statement.Delete table) count = Unit {0}

abbrev pub OperationsFit : List ℕ → Facts → Type 0
OperationsFit widths F = (number : ℕ) (o : Operation) → by_number F.operations number ≡ Some o → FitsTables widths o.statement (length o.params)

-- ---- calls and sessions

-- the heap of a session: object 0 is of Main
pub record IsSessionHeap (F : Facts) (heap : List Object) : Type 0 where
  pub typed : IsTypedHeap F heap
  pub main : kind_at heap 0 ≡ Some (kind.Object F.main.class)

-- a value has the type that the entry gives, and nothing is replied by a void method alone
abbrev pub HasReplyType : List Object → Entry → Reply → Type 0
HasReplyType heap entry (reply.Value v) = HasType heap (given_type entry.gives) v
HasReplyType heap entry reply.Void = entry.gives ≡ None
HasReplyType heap entry (reply.Threw t) = Unit {0}

pub record IsTypedAfter {W : Type 0} (F : Facts) (I : W → Type 0) (entry : Entry) (c : Called W) : Type 0 where
  pub heap : IsSessionHeap F c.heap
  pub world : I c.world
  pub reply : HasReplyType c.heap entry c.reply

-- its arguments have the types of the entry's parameters, on any heap
abbrev pub IsTypedCall : Facts → Call → Type 0
IsTypedCall F c = (entry : Entry) → slice_get F.main.entries c.entry ≡ Some entry → HaveTypes [] (map inner_type entry.params) c.args

abbrev pub AreTypedCalls : Facts → List Call → Type 0
AreTypedCalls F [] = Unit {0}
AreTypedCalls F (c ∷ calls) = IsTypedCall F c × AreTypedCalls F calls

pub record IsTypedStand {W : Type 0} (F : Facts) (I : W → Type 0) (stand : Stand W) : Type 0 where
  pub heaps : (place : ℕ) (heap : List Object) → slice_get stand.heaps place ≡ Some heap → IsSessionHeap F heap
  pub world : I stand.world
