-- What an end keeps, as theorems about its definitions.
use Rattle.std.specs.Prelude.{◌≡◌, ℕ, ◌≤◌, ◌<◌, ◌^◌, List, length, Option, Some, None}
use Rattle.std.specs.List.{AllByRecursion}
use Rattle.px_value.specs.declared.value.Value.{Value}
use Rattle.px_code.specs.declared.word.Operand.{Operand}
use Rattle.px_code.specs.declared.word.Operand.TheVariants.{Slot, Literal}
use Rattle.px_code.specs.declared.word.Word.{Word}
use Rattle.px_code.specs.declared.word.Word.TheVariants as w
use Rattle.px_code.specs.declared.method.Method.{Method}
use Rattle.px_code.specs.declared.block.Statement.{Statement}
use Rattle.px_code.specs.Machine.{Machine, steps}
use Rattle.px_code.specs.Frames.{types_of}
use Rattle.px_code.specs.CodeRun.{method_at}
use Rattle.px_wire.specs.declared.message.Message.{Message}
use Rattle.px_wire.specs.Fitting.{HasShortText, HasSpelling}
use Rattle.px_half.specs.End.{End, plan_at, methods_in, begun}
use Rattle.px_half.specs.Messages.{IsTellable}
use Rattle.px_half.specs.Absorbed.{absorbed}

-- ---- code whose texts are short

abbrev pub IsShortOperand : Operand → Type 0
IsShortOperand (Slot n) = Unit {0}
IsShortOperand (Literal v) = HasShortText v

abbrev pub IsShortOption : Option Operand → Type 0
IsShortOption None = Unit {0}
IsShortOption (Some a) = IsShortOperand a

abbrev pub IsShortWord : Word → Type 0
IsShortWord (w.Set to a) = IsShortOperand a
IsShortWord (w.Op op to a b) = IsShortOperand a × IsShortOption b
IsShortWord (w.Get to of class field) = IsShortOperand of
IsShortWord (w.Put of class field a) = IsShortOperand of × IsShortOperand a
IsShortWord (w.Return a) = IsShortOption a

abbrev pub AreShort : List Statement → Type 0
AreShort statements = AllByRecursion (λ (s : Statement). IsShortWord s.word) statements

-- a frame has at most 65,536 slots
abbrev pub HasFewSlots : Method → Type 0
HasFewSlots m = length m.slots ≤ 2 ^ 16

-- ---- what can be told, from the begin of a call on

abbrev pub BeginIsTellable : Type 0
BeginIsTellable = (method : ℕ) (args : List Value) (e : End) → IsTellable e.machine → AllByRecursion HasShortText args → length args < 2 ^ 16 → length (types_of (method_at (methods_in (plan_at e)) method)) ≤ 2 ^ 16 → IsTellable (begun method args e).machine

abbrev pub StepsStayTellable : Type 0
StepsStayTellable = (statements : List Statement) (m : Machine) → AreShort statements → IsTellable m → IsTellable (steps statements m).machine

-- a message leaves what can be told, if its stack has at most 255 frames
abbrev pub AbsorbedIsTellable : Type 0
AbsorbedIsTellable = (message : Message) (old new : End) → HasSpelling message → AllByRecursion HasFewSlots (methods_in (plan_at old)) → IsTellable old.machine → absorbed message old ≡ Some new → length new.machine.frames ≤ 255 → IsTellable new.machine
