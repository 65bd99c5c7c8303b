-- What the machine of an end stands for, and how its calls meet the meaning of statements.
use Rattle.std.specs.Prelude.{◌≡◌, ℕ, ◌++◌, ◌∷◌, [], List, Option, Result, Ok, Err}
use Rattle.px_value.specs.declared.value.Value.{Value}
use Rattle.px_value.specs.declared.value.Value.TheVariants.{Null}
use Rattle.px_value.specs.declared.op.Op.{Op}
use Rattle.px_value.specs.Heap.{written}
use Rattle.px_value.specs.Operators.{Applied, apply}
use Rattle.px_code.specs.declared.word.Operand.{Operand}
use Rattle.px_value.specs.declared.object.Object.{Object}
use Rattle.px_code.specs.declared.word.Word.{Word}
use Rattle.px_code.specs.Act.{Slots, Act, Reads, Writes, comes, at_object, operand, operand_or, act_of, Acted, acted}
use Rattle.px_code.specs.Machine.{Machine, top_values, Stop as Ending, RunsOn, Returned, Threw}
use Rattle.px_half.specs.Undo.{undone}
use Rattle.px_half.specs.declared.machine.Machine.{Machine as MachineData}
use Rattle.px_half.specs.declared.machine.Flow.{Flow}
use Rattle.px_half.specs.declared.machine.Flow.TheVariants as flow
use Rattle.px_half.specs.declared.stop.Stop.{Stop}
use Rattle.px_half.specs.declared.stop.Stop.TheVariants as stop

abbrev pub machine_of : MachineData → Machine
machine_of m = record { heap = m.heap; frames = m.frames.items; base = m.base; marks = m.marks.items; named = m.named.items }

-- the heap as it was after the last close
abbrev pub closed_of : MachineData → List Object
closed_of m = undone m.undo.items m.heap

abbrev pub marked_write : ℕ → ℕ → Value → Machine → Machine
marked_write object index v m = record m { heap = written m.heap object index v; marks = m.marks ++ record { object = object; index = index } ∷ [] }

-- the acts of `get`, `put` and `op`
abbrev pub got : Operand → ℕ → Slots → Act
got of field slots = at_object (operand slots of) (λ object. Reads object field comes)

abbrev pub put_at : Operand → ℕ → Operand → Slots → Act
put_at of field a slots = at_object (operand slots of) (λ object. Writes object field (operand slots a) (comes Null))

abbrev pub applied : Op → Operand → Option Operand → Slots → Applied
applied op a b slots = apply op (operand slots a) (operand_or slots (operand slots a) b)

-- the word on this heap and in the frame that runs
abbrev pub acts : Word → Machine → Acted
acts word m = acted (act_of word (top_values m.frames)) m.heap

-- a fact that want of memory ends
abbrev pub Unless : {A : Type 0} → Result A Stop → Type 0 → Type 0
Unless (Ok a) P = P
Unless (Err (stop.Threw t)) P = P
Unless (Err stop.NoMemory) P = Unit {0}

abbrev pub ComesTo : Result Value Stop → Acted → Type 0
ComesTo (Ok v) a = a.ends ≡ Ok v
ComesTo (Err (stop.Threw t)) a = a.ends ≡ Err t
ComesTo (Err stop.NoMemory) a = Unit {0}

abbrev pub ending_of : Flow → Ending
ending_of flow.Goes = RunsOn
ending_of flow.Returned = Returned

abbrev pub StopsAs : Result Flow Stop → Ending → Type 0
StopsAs (Ok f) ending = ending ≡ ending_of f
StopsAs (Err (stop.Threw t)) ending = ending ≡ Threw t
StopsAs (Err stop.NoMemory) ending = Unit {0}
