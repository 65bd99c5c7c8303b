-- The meaning of normal statements on one heap, with what each statement read and wrote.
use Rattle.std.specs.Prelude.{ℕ, zero, suc, nat_eq, List, [], ◌∷◌, ◌++◌, length, map, drop, Option, Some, None, unwrap_or, slice_get, Ok, Err, if◌then◌else◌}
use Rattle.px_value.specs.declared.value.Value.{Value}
use Rattle.px_value.specs.declared.value.Value.TheVariants.{Null, Ref}
use Rattle.px_value.specs.declared.object.Object.{Object}
use Rattle.px_value.specs.declared.ty.Ty.{Ty}
use Rattle.px_value.specs.Defaults.{default_of}
use Rattle.px_value.specs.Operators.{Applied}
use Rattle.px_value.specs.Outcome.{Outcome, Gives, Throws, Asks, Run, State, Shared, Flow, Goes, Returns, in_order}
use Rattle.px_code.specs.declared.cell.Cell.{Cell}
use Rattle.px_code.specs.declared.word.Word.{Word}
use Rattle.px_code.specs.declared.word.Word.TheVariants as w
use Rattle.px_code.specs.declared.method.Method.{Method}
use Rattle.px_code.specs.declared.method.Tree.{Tree}
use Rattle.px_code.specs.declared.method.Tree.TheVariants.{Do}
use Rattle.px_code.specs.declared.code.Code.{Code}
use Rattle.px_code.specs.Act.{Slots, act_of, slot_of, Acted, acted}

-- a statement that ran
pub record Ran : Type 0 where
  pub node : ℕ
  pub reads : List Cell
  pub writes : List Cell

-- what frames share, and the statements that ran
pub record Traced (W : Type 0) : Type 0 where
  pub shared : Shared W
  pub ran : List Ran

abbrev pub Frame : Type 0 → Type 0
Frame W = State Slots (Traced W)

abbrev pub There : Type 0 → Type 0 → Type 0 → Type 0
There Q W A = Run Q (Frame W) A

-- ---- statements

abbrev pub with_slot : Option ℕ → Value → Slots → Slots
with_slot None v slots = slots
with_slot (Some n) v slots = λ k. if nat_eq k n then v else slots k

abbrev pub given : {A : Type 0} → Option A → Value → Option Value
given None v = None
given (Some a) v = Some v

abbrev pub flow_of : Word → Value → Flow Value
flow_of (w.Return a) v = Returns (given a v)
flow_of _ v = Goes

abbrev pub noted : {W : Type 0} → ℕ → Acted → Traced W → Traced W
noted node a g = record { shared = record g.shared { heap = a.heap }; ran = g.ran ++ record { node = node; reads = a.reads; writes = a.writes } ∷ [] }

abbrev pub after_word : {Q W : Type 0} → ℕ → Word → Slots → Traced W → Acted → Applied → Outcome Q (Frame W) (Flow Value)
after_word node word slots g a (Ok v) = Gives (flow_of word v) (record { locals = with_slot (slot_of word) v slots; shared = noted node a g })
after_word node word slots g a (Err t) = Throws t (record { locals = slots; shared = noted node a g })

abbrev pub traced : {Q W : Type 0} → ℕ → Word → Slots → Traced W → Acted → Outcome Q (Frame W) (Flow Value)
traced node word slots g a = after_word node word slots g a a.ends

abbrev pub word_run : {Q W : Type 0} → ℕ → Word → There Q W (Flow Value)
word_run node word = λ s. traced node word s.locals s.shared (acted (act_of word s.locals) s.shared.shared.heap)

abbrev pub tree_run : {Q W : Type 0} → Tree → There Q W (Flow Value)
tree_run (Do node word) = word_run node word

abbrev pub body_run : {Q W : Type 0} → List Tree → There Q W (Flow Value)
body_run trees = in_order (map tree_run trees)

-- ---- frames

-- `this` and the arguments stand in the first slots, and every other slot has the default of its type
abbrev pub first_values : List Ty → List Value → List Value
first_values types args = args ++ map default_of (drop (length args) types)

abbrev pub first_slots : List Ty → List Value → Slots
first_slots types args = λ k. unwrap_or (slice_get (first_values types args) k) Null

abbrev pub result_of : Flow Value → Option Value
result_of Goes = None
result_of (Returns v) = v

abbrev pub leaves_frame : {Q L G : Type 0} → Outcome Q (State L G) (Flow Value) → Outcome Q G (Option Value)
leaves_frame (Gives f s) = Gives (result_of f) s.shared
leaves_frame (Throws t s) = Throws t s.shared
leaves_frame (Asks q s) = Asks q s.shared

-- methods are numbered from 1
abbrev pub method_at : List Method → ℕ → Option Method
method_at methods zero = None
method_at methods (suc m) = slice_get methods m

abbrev pub enters : {Q W : Type 0} → Option Method → List Value → Run Q (Traced W) (Option Value)
enters None args g = Gives None g
enters (Some m) args g = leaves_frame (body_run m.body (record { locals = first_slots m.slots args; shared = g }))

-- the run of a method as an entry: object 0 of the heap is `this`
unfoldable pub code_run : {Q W : Type 0} → Code → List Object → W → ℕ → List Value → Outcome Q (Traced W) (Option Value)
code_run code heap world method args = enters (method_at code.methods method) (Ref 0 ∷ args) (record { shared = record { heap = heap; world = world }; ran = [] })
