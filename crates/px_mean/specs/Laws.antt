-- What holds of a run whose answers are written in a list, and of one that tables answer.
use Rattle.std.specs.Prelude.{◌≡◌, ℕ, ◌+◌, ◌≤◌, Bool, List, [], ◌∷◌, ◌++◌, length, map, Option, Some, slice_get}
use Rattle.px_value.specs.declared.value.Value.{Value}
use Rattle.px_value.specs.declared.object.Object.{Object}
use Rattle.px_value.specs.declared.statement.TableOp.{TableOp}
use Rattle.px_value.specs.declared.answer.Answer.{Answer}
use Rattle.px_facts.specs.declared.checked.Entry.{Entry}
use Rattle.px_facts.specs.declared.checked.Facts.{Facts}
use Rattle.px_value.specs.Outcome.{Outcome, Gives, Throws, Asks}
use Rattle.px_rows.specs.Tables.{Tables}
use Rattle.px_rows.specs.Means.{fed, answers_to}
use Rattle.px_mean.specs.Run.{Shared}
use Rattle.px_mean.specs.Operations.{Ask, max_operations}
use Rattle.px_mean.specs.Asks.{by_list, by_tables}
use Rattle.px_mean.specs.Calls.{Source}
use Rattle.px_mean.specs.Entry.{exec, call_of}
use Rattle.px_mean.specs.Serial.{Call, Stand, serves, first_stand}
use Rattle.px_mean.specs.Typed.{HaveTypes, are_kept}
use Rattle.px_mean.specs.Typing.{inner_type, IsTyped}
use Rattle.px_mean.specs.TypedRuns.{OperationsFit, Passes, AnswersTyped, IsSessionHeap, IsTypedAfter, AreTypedCalls, IsTypedStand}

-- how a method ends where the answers are written in a list
abbrev pub Ends : Type 0
Ends = Outcome TableOp (Shared (List Answer)) (Option Value)

-- the run of a method as an entry, for each list of answers
abbrev pub on_list : Source → List Object → ℕ → List Value → List Answer → Ends
on_list P heap method args answers = exec by_list P heap answers method args

-- where it comes to a value or to a throw, this holds of what is reached
abbrev pub IfEnds : {Q S A : Type 0} → Outcome Q S A → (S → Type 0) → Type 0
IfEnds (Gives v s) H = H s
IfEnds (Throws t s) H = H s
IfEnds (Asks q s) H = Unit {0}

-- where it leaves a question open, this holds of the question and of the state that was reached
abbrev pub IfAsks : {Q S A : Type 0} → Outcome Q S A → (Q → S → Type 0) → Type 0
IfAsks (Gives v s) H = Unit {0}
IfAsks (Throws t s) H = Unit {0}
IfAsks (Asks q s) H = H q s

-- the same but for the world
abbrev pub with_world : {V W : Type 0} → Shared V → W → Shared W
with_world s world = record { heap = s.heap; world = world; prints = s.prints; turns = s.turns; operations = s.operations }

-- The first comes to a value or to a throw, and the second to the same, with the same heap, prints and counts; its world is this one.
abbrev pub EndsSo : {Q R V W A : Type 0} → Outcome Q (Shared V) A → W → Outcome R (Shared W) A → Type 0
EndsSo (Gives v s) world end = end ≡ Gives v (with_world s world)
EndsSo (Throws t s) world end = end ≡ Throws t (with_world s world)
EndsSo (Asks q s) world end = ⊥

-- A run asks these operations, one after the other, as it is given these answers: with no answer it asks the first operation,
-- and, once the first answer is given, it asks the others in order.
abbrev pub AsksInOrder : {S A : Type 0} → (List Answer → Outcome TableOp S A) → List TableOp → List Answer → Type 0
AsksInOrder {S} run [] [] = Unit {0}
AsksInOrder {S} run (o ∷ operations) (a ∷ answers) = ((s : S) × (run [] ≡ Asks o s)) × AsksInOrder (λ more. run (a ∷ more)) operations answers
AsksInOrder {S} run _ _ = ⊥

-- ---- lists of answers

-- more answers change nothing but that they are left over
abbrev pub LongerLists : Type 0
LongerLists = (P : Source) (heap : List Object) (answers more : List Answer) (method : ℕ) (args : List Value)
    → IfEnds (on_list P heap method args answers) (λ s. EndsSo (on_list P heap method args answers) (s.world ++ more) (on_list P heap method args (answers ++ more)))

-- some answers were used, and the rest is left
abbrev pub OnlyWrittenDown : Type 0
OnlyWrittenDown = (P : Source) (heap : List Object) (answers : List Answer) (method : ℕ) (args : List Value)
    → IfEnds (on_list P heap method args answers) (λ s. (used : List Answer) × (answers ≡ used ++ s.world))

-- each operation that was counted used one answer, and there are not too many
abbrev pub OneForEach : Type 0
OneForEach = (P : Source) (heap : List Object) (answers : List Answer) (method : ℕ) (args : List Value)
    → IfEnds (on_list P heap method args answers) (λ s. (used : List Answer) × (answers ≡ used ++ s.world) × (s.operations ≡ length used) × (s.operations ≤ max_operations))

-- the answers that are used are those to what the run asks, in order
abbrev pub AskedInOrder : Type 0
AskedInOrder = (P : Source) (heap : List Object) (answers : List Answer) (method : ℕ) (args : List Value)
    → IfEnds (on_list P heap method args answers) (λ s. (used : List Answer) × (operations : List TableOp) × (answers ≡ used ++ s.world) × AsksInOrder (on_list P heap method args) operations used)

-- All answers are used before a question is left open, and the question is what is asked next. The state that stands there has counted it
-- beside those that were answered.
abbrev pub OpenAtTheEnd : Type 0
OpenAtTheEnd = (P : Source) (heap : List Object) (answers : List Answer) (method : ℕ) (args : List Value)
    → IfAsks (on_list P heap method args answers) (λ o s. (s.world ≡ []) × (s.operations ≡ length answers + 1) × (s.operations ≤ max_operations) × (operations : List TableOp) × ((answer : Answer) → AsksInOrder (on_list P heap method args) (operations ++ o ∷ []) (answers ++ answer ∷ [])))

-- ---- tables

-- where it comes to a value or to a throw, its world is this one
abbrev pub EndsIn : {Q W A : Type 0} → Outcome Q (Shared W) A → W → Type 0
EndsIn end world = IfEnds end (λ s. s.world ≡ world)

-- A run on tables is the run on what the tables answer to the operations that it asks, one after the other;
-- it uses all these answers, and leaves the tables as the operations do.
pub record IsAsOnList {Q : Type 0} (end : Outcome Q (Shared Tables) (Option Value)) (tables : Tables) (run : List Answer → Ends) : Type 0 where
  pub operations : List TableOp
  pub asked : AsksInOrder run operations (answers_to operations tables)
  pub same : EndsSo end [] (run (answers_to operations tables))
  pub tables_after : EndsIn end (fed operations tables)

abbrev pub TablesAsLists : Type 0 → Type 0
TablesAsLists Q = (P : Source) (heap : List Object) (tables : Tables) (method : ℕ) (args : List Value)
    → IsAsOnList (exec {Q = Q} by_tables P heap tables method args) tables (on_list P heap method args)

-- And where a list has what tables answer to the operations that the run asks in order, and the run ends, it ends so on the tables.
abbrev pub ListsAsTables : Type 0 → Type 0
ListsAsTables Q = (P : Source) (heap : List Object) (tables : Tables) (method : ℕ) (args : List Value) (operations : List TableOp)
    → AsksInOrder (on_list P heap method args) operations (answers_to operations tables)
    → IfEnds (on_list P heap method args (answers_to operations tables)) (λ s. EndsSo (on_list P heap method args (answers_to operations tables)) (fed operations tables) (exec {Q = Q} by_tables P heap tables method args))

-- ---- types

-- A call of a typed program leaves a typed heap, and its reply has the entry's type. The world answers typed while it passes a test, and goes
-- on to pass it.
abbrev pub AHeapStaysTyped : Type 0 → Type 0
AHeapStaysTyped W = (test : W → Bool) (ask : Ask ⊥ W) (P : Source) (heap : List Object) (world : W) (place : ℕ) (entry : Entry) (args : List Value)
    → IsTyped P → AnswersTyped P.facts ask (Passes test) → IsSessionHeap P.facts heap → Passes test world
    → slice_get P.facts.main.entries place ≡ Some entry → HaveTypes heap (map inner_type entry.params) args
    → IsTypedAfter P.facts (Passes test) entry (call_of ask P heap world place args)

-- and so do calls one after the other, of all sessions
abbrev pub AllHeapsStayTyped : Type 0 → Type 0
AllHeapsStayTyped W = (test : W → Bool) (ask : Ask ⊥ W) (P : Source) (calls : List Call) (stand : Stand W)
    → IsTyped P → AnswersTyped P.facts ask (Passes test) → AreTypedCalls P.facts calls → IsTypedStand P.facts (Passes test) stand
    → IsTypedStand P.facts (Passes test) (serves ask P calls stand).1

-- before all calls the heaps are typed
abbrev pub FirstHeapsAreTyped : Type 0 → Type 0
FirstHeapsAreTyped W = (test : W → Bool) (P : Source) (sessions : ℕ) (world : W) → Passes test world → IsTypedStand P.facts (Passes test) (first_stand P sessions world)

-- Tables whose cells are longs and texts answer typed, and keep such cells, where the program's operations fit them.
abbrev pub TablesAnswerTyped : Type 0 → Type 0
TablesAnswerTyped Q = (widths : List ℕ) (F : Facts) → OperationsFit widths F → AnswersTyped {Q = Q} F by_tables (Passes (are_kept widths))
