-- What a machine stands for, and how its calls meet the meaning.
use Rattle.std.specs.Prelude.{◌≡◌, ◌≤◌, ℕ, List, map, Option, Result, Ok, Err}
use Rattle.std.specs.Borrow.{Bor}
use Rattle.px_value.specs.declared.value.Value.{Value}
use Rattle.px_value.specs.declared.object.Object.{Object}
use Rattle.px_value.specs.Outcome.{Outcome, Gives, Throws, Flow, Goes, Returns}
use Rattle.px_value.specs.Operators.{Applied}
use Rattle.px_tree.specs.declared.Expr.{Expr}
use Rattle.px_tree.specs.declared.Stmt.{Stmt}
use Rattle.px_mean.specs.Run.{Shared, Frame}
use Rattle.px_rows.specs.Tables.{Tables, undone}
use Rattle.px_mean.specs.Asks.{by_tables}
use Rattle.px_mean.specs.Expressions.{Around, Meant, meant}
use Rattle.px_mean.specs.Statements.{done_by}
use Rattle.px_mean.specs.Calls.{Source, calls_in}
use Rattle.px_plain.specs.Undo.{restored}
use Rattle.px_plain.specs.declared.around.Around.{Around as AroundData}
use Rattle.px_plain.specs.declared.store.Store.{Store}
use Rattle.px_plain.specs.declared.asked.Asked.{Asked}
use Rattle.px_plain.specs.declared.machine.Machine.{Machine}
use Rattle.px_plain.specs.declared.stop.Stop.{Stop}
use Rattle.px_plain.specs.declared.stop.Stop.TheVariants as stop
use Rattle.px_plain.specs.declared.stop.Next.{Next}
use Rattle.px_plain.specs.declared.stop.Next.TheVariants as next

-- ---- states

-- the tables are asked, and no question is left open
abbrev pub There : Type 0
There = Shared Tables

abbrev pub Here : Type 0
Here = Frame Tables

abbrev pub Ending : Type 0 → Type 0 → Type 0
Ending S A = Outcome ⊥ S A

abbrev pub shared_of : Machine → There
shared_of m = record { heap = m.store.heap; world = m.asked.tables; prints = m.prints.lines.items; turns = m.turns; operations = m.asked.count }

abbrev pub frame : List Value → Machine → Here
frame slots m = record { locals = slots; shared = shared_of m }

-- ---- how a call ends

abbrev pub Stops : {S A : Type 0} → S → Stop → Ending S A → Type 0
Stops s (stop.Threw t) o = o ≡ Throws t s
Stops s stop.NoMemory o = Unit {0}

-- a call ended as the meaning says, unless memory ran out
abbrev pub Ends : {S A : Type 0} → S → Result A Stop → Ending S A → Type 0
Ends s (Ok v) o = o ≡ Gives v s
Ends s (Err e) o = Stops s e o

-- the same of a call that leaves its value somewhere
abbrev pub EndsWith : {S A : Type 0} → S → A → Result (Unit {0}) Stop → Ending S A → Type 0
EndsWith s v (Ok u) o = o ≡ Gives v s
EndsWith s v (Err e) o = Stops s e o

-- the value or the throw that an operator comes to
abbrev pub Came : Result Value Stop → Applied → Type 0
Came (Ok v) a = a ≡ Ok v
Came (Err (stop.Threw t)) a = a ≡ Err t
Came (Err stop.NoMemory) a = Unit {0}

abbrev pub flow_of : Next → Flow Value
flow_of next.Goes = Goes
flow_of (next.Returns v) = Returns v

abbrev pub EndsFlow : Here → Result Next Stop → Ending Here (Flow Value) → Type 0
EndsFlow s (Ok next) o = o ≡ Gives (flow_of next) s
EndsFlow s (Err e) o = Stops s e o

-- ---- what is taken back

abbrev pub old_heap : Store → List Object
old_heap s = restored s.start s.changes.items s.heap

abbrev pub old_tables : Asked → Tables
old_tables a = undone a.undo a.tables

-- what a session's heap and the tables were when the call began
pub record Before : Type 0 where
  pub heap : List Object
  pub tables : Tables

abbrev pub before : Machine → Before
before m = record { heap = old_heap m.store; tables = old_tables m.asked }

-- what was written since the call began is taken back to the same heap and tables as before
abbrev pub Keeps : Machine → Machine → Type 0
Keeps old new = before new ≡ before old

-- a fact that want of memory ends
abbrev pub IfKept : {A : Type 0} → Result A Stop → Type 0 → Type 0
IfKept (Ok v) P = P
IfKept (Err (stop.Threw t)) P = P
IfKept (Err stop.NoMemory) P = Unit {0}

-- ---- the meaning

abbrev pub all_now : {A : Type 0} → List (Bor A) → List A
all_now xs = map (λ x. x.now) xs

abbrev pub source_of : AroundData → Source
source_of a = record { facts = a.facts.now; methods = all_now a.methods.now }

abbrev pub around_of : AroundData → Around ⊥ Tables
around_of a = record { facts = a.facts.now; ask = by_tables; calls = calls_in by_tables (source_of a) a.left }

abbrev pub says : AroundData → Expr → Meant ⊥ Tables
says a = meant (around_of a)

abbrev pub does : AroundData → Stmt → Here → Ending Here (Flow Value)
does a = done_by (around_of a) a.result

-- a call of a method from this machine leaves that one
pub record CallEnds (a : AroundData) (old : Machine) (method : ℕ) (values : List Value) (r : Result (Option Value) Stop) (new : Machine) : Type 0 where
  pub ends : Ends (shared_of new) r (calls_in by_tables (source_of a) a.left method values (shared_of old))
  pub kept : IfKept r (Keeps old new)
  pub turns : old.turns ≤ new.turns
