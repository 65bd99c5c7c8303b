-- What is proved of the runs of code.
use Rattle.std.specs.Prelude.{◌≡◌, ℕ, Bool, true, List, [], ◌∷◌, length, Option, Some}
use Rattle.std.specs.List.{AllByRecursion}
use Rattle.px_value.specs.declared.value.Value.{Value}
use Rattle.px_value.specs.declared.value.Value.TheVariants.{Ref}
use Rattle.px_value.specs.declared.header.Kind.TheVariants as kind
use Rattle.px_value.specs.declared.object.Object.{Object}
use Rattle.px_value.specs.Outcome.{Outcome, Gives, Throws, Asks}
use Rattle.px_effects.specs.Run.{Ask}
use Rattle.px_normal.specs.declared.word.Operand.TheVariants.{Slot}
use Rattle.px_normal.specs.declared.word.Word.TheVariants as w
use Rattle.px_normal.specs.declared.method.Method.{Method}
use Rattle.px_normal.specs.declared.code.Code.{Code}
use Rattle.px_normal.specs.First.{fresh_of}
use Rattle.px_normal.specs.Run.{Traced}
use Rattle.px_normal.specs.CodeRun.{code_run}
use Rattle.px_normal.specs.Typed.{IsTyped}
use Rattle.px_flow_points.specs.Statements.{IsMethod, HasStatement}
use Rattle.px_flow_points.specs.Points.{InSlot}
use Rattle.px_points_stay.specs.Fits.{IsNoReference, HeapFits, Leads, AnswersPlainly, RanWithin}

-- what a run leaves
pub record LeavesFit (code : Code) (W : Type 0) (g : Traced W) : Type 0 where
  pub heap : HeapFits code g.shared.heap
  pub ran : AllByRecursion (RanWithin code g.shared.heap) g.ran

-- a reference that a method returns is in the set of an operand that it returns
pub record IsBack (code : Code) (heap : List Object) (m target : ℕ) : Type 0 where
  pub node : ℕ
  pub slot : ℕ
  pub has : HasStatement code m node (w.Return (Some (Slot slot)))
  pub leads : Leads code heap (InSlot m slot) target

abbrev pub EndsFit : (code : Code) (Q W : Type 0) → ℕ → Outcome Q (Traced W) (Option Value) → Type 0
EndsFit code Q W m (Gives v g) = LeavesFit code W g × ((target : ℕ) → v ≡ Some (Ref target) → IsBack code g.shared.heap m target)
EndsFit code Q W m (Throws t g) = LeavesFit code W g
EndsFit code Q W m (Asks q g) = LeavesFit code W g

-- The run of an entry from a heap that fits, with arguments and answers without references, leaves a heap that fits, whether it ends, throws or is left open; each statement read and wrote within its pairs.
abbrev pub RunsStay : Type 0 → Type 0 → Type 0
RunsStay Q W = (code : Code) (ask : Ask Q W) (kept : W → Bool) (heap : List Object) (world : W) (m : ℕ) (method : Method) (args : List Value) → IsTyped code → AnswersPlainly kept ask → kept world ≡ true → HeapFits code heap → IsMethod code m method → method.entry ≡ true → AllByRecursion IsNoReference args → EndsFit code Q W m (code_run code ask heap world m args)

-- the first heap of a session: one object, of Main, made at site 0
abbrev pub first_heap : Code → List Object
first_heap code = record { header = record { kind = kind.Object code.main; site = 0; length = length (fresh_of code code.main) }; cells = fresh_of code code.main } ∷ []

abbrev pub FirstFits : Type 0
FirstFits = (code : Code) → HeapFits code (first_heap code)
