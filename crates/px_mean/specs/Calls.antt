-- The meaning of a call of a method: its frame, and how many frames there may be (JLS 15.12.4.5).
use Rattle.std.specs.Prelude.{ℕ, zero, suc, List, map, ◌++◌, length, drop, Option, Some, None}
use Rattle.px_value.specs.declared.value.Value.{Value}
use Rattle.px_value.specs.declared.thrown.Thrown.TheVariants.{StackOverflowError}
use Rattle.px_value.specs.Outcome.{Outcome, Gives, Throws, Asks, pure, throw, State, Flow, Goes, Returns}
use Rattle.px_tree.specs.declared.Method.{Method}
use Rattle.px_facts.specs.declared.types.Ty.{Ty}
use Rattle.px_facts.specs.declared.checked.MethodFact.{MethodFact}
use Rattle.px_facts.specs.declared.checked.Facts.{Facts}
use Rattle.px_mean.specs.Run.{There}
use Rattle.px_mean.specs.Facts.{by_number, default_of}
use Rattle.px_mean.specs.Operations.{Ask}
use Rattle.px_mean.specs.Expressions.{Around, Calls}
use Rattle.px_mean.specs.Statements.{done_by}

-- what is run of a program: its facts, and its methods in the order of their numbers
pub record Source : Type 0 where
  pub facts : Facts
  pub methods : List Method

-- the receiver and the arguments, and behind them the other locals, not yet written
abbrev pub first_slots : List Ty → List Value → List Value
first_slots types values = values ++ map default_of (drop (length values) types)

abbrev pub result_of : Flow Value → Option Value
result_of Goes = None
result_of (Returns v) = v

-- a method's frame is gone at its end, however it ends
abbrev pub leaves_frame : {Q L G : Type 0} → Outcome Q (State L G) (Flow Value) → Outcome Q G (Option Value)
leaves_frame (Gives flow s) = Gives (result_of flow) s.shared
leaves_frame (Throws t s) = Throws t s.shared
leaves_frame (Asks q s) = Asks q s.shared

-- a method that isn't there does nothing
abbrev pub enters : {Q W : Type 0} → Around Q W → Option Method → Option MethodFact → List Value → There Q W (Option Value)
enters P (Some method) (Some fact) values = λ s. leaves_frame (done_by P fact.result method.body (record { locals = first_slots fact.slots values; shared = s }))
enters P _ _ values = pure None

-- calls with at most so many frames
unfoldable pub calls_in : {Q W : Type 0} → Ask Q W → Source → ℕ → Calls Q W
calls_in ask P zero method values = throw StackOverflowError
calls_in ask P (suc n) method values = enters (record { facts = P.facts; ask = ask; calls = calls_in ask P n }) (by_number P.methods method) (by_number P.facts.methods method) values
