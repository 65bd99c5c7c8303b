-- Blocks that run on a heap and a stack of frames, and what was written since control came.
use Rattle.std.specs.Prelude.{ℕ, zero, suc, ◌-◌, min, Bool, true, false, List, [], ◌∷◌, ◌++◌, length, take, Option, Some, None, slice_get, slice_set, Ok, Err}
use Rattle.px_value.specs.declared.value.Value.{Value}
use Rattle.px_value.specs.declared.value.Value.TheVariants.{Null, Ref}
use Rattle.px_value.specs.declared.object.Object.{Object}
use Rattle.px_value.specs.declared.thrown.Thrown.{Thrown}
use Rattle.px_value.specs.Operators.{Applied}
use Rattle.px_code.specs.declared.cell.Cell.{Cell}
use Rattle.px_code.specs.declared.word.Word.{Word}
use Rattle.px_code.specs.declared.word.Word.TheVariants as w
use Rattle.px_code.specs.declared.frame.Frame.{Frame}
use Rattle.px_code.specs.declared.frame.Slot.{Slot}
use Rattle.px_code.specs.declared.block.Send.{Send}
use Rattle.px_code.specs.declared.block.Naming.{Naming}
use Rattle.px_code.specs.declared.block.Statement.{Statement}
use Rattle.px_code.specs.declared.block.Block.{Block}
use Rattle.px_code.specs.declared.block.Exit.{Exit}
use Rattle.px_code.specs.declared.block.Exit.TheVariants.{Return as Leaves, Next}
use Rattle.px_code.specs.Act.{Slots, operand, act_of, slot_of, Acted, acted}
use Rattle.px_code.specs.CodeRun.{Ran, given}

-- ---- frames, the lowest first

abbrev pub slot_value : Option Slot → Value
slot_value None = Null
slot_value (Some slot) = slot.value

abbrev pub slots_in : Option Frame → List Slot
slots_in None = []
slots_in (Some frame) = frame.slots

abbrev pub slots_at : List Frame → ℕ → List Slot
slots_at frames f = slots_in (slice_get frames f)

abbrev pub value_in : List Slot → Slots
value_in slots = λ n. slot_value (slice_get slots n)

-- the frame that runs
abbrev pub top : List Frame → ℕ
top frames = length frames - 1

abbrev pub top_values : List Frame → Slots
top_values frames = value_in (slots_at frames (top frames))

abbrev pub just_written : Value → Slot
just_written v = record { value = v; written = true }

abbrev pub with_slot_in : Option Frame → ℕ → Value → List Frame → ℕ → List Frame
with_slot_in None n v frames f = frames
with_slot_in (Some frame) n v frames f = slice_set frames f (record frame { slots = slice_set frame.slots n (just_written v) })

abbrev pub filled : List Frame → ℕ → ℕ → Value → List Frame
filled frames f n v = with_slot_in (slice_get frames f) n v frames f

abbrev pub filled_if : List Frame → ℕ → Option ℕ → Value → List Frame
filled_if frames f None v = frames
filled_if frames f (Some n) v = filled frames f n v

-- ---- the machine

-- `base` is how many of the lowest frames stood when control came and weren't left since; `marks` are the cells written since then, the last at the end, and `named` the sends.
pub record Machine : Type 0 where
  pub heap : List Object
  pub frames : List Frame
  pub base : ℕ
  pub marks : List Cell
  pub named : List Naming

-- the frame that runs is left
abbrev pub popped : Machine → Machine
popped m = record m { frames = take (top m.frames) m.frames; base = min m.base (top m.frames) }

-- the result goes to the slot of the caller: of the lowest frame, the slot of the reply
abbrev pub answered : Option Value → List Frame → List Frame
answered None frames = frames
answered (Some v) frames = filled frames (top frames - 1) 0 v

abbrev pub returned : Option Value → Machine → Machine
returned result m = popped (record m { frames = answered result m.frames })

abbrev pub with_value : Word → Value → Machine → Machine
with_value (w.Return a) v m = returned (given a v) m
with_value word v m = record m { frames = filled_if m.frames (top m.frames) (slot_of word) v }

-- ---- sends

abbrev pub naming : Send → Value → List Naming
naming send (Ref object) = record { home = send.home; object = object } ∷ []
naming send _ = []

abbrev pub namings : Option Send → Slots → List Naming
namings None slots = []
namings (Some send) slots = naming send (operand slots send.object)

abbrev pub sent : Option Send → Machine → Machine
sent send m = record m { named = m.named ++ namings send (top_values m.frames) }

-- ---- statements

-- what came of a statement, or of some
pub data Stop : Type 0 where
  RunsOn : Stop
  Returned : Stop
  Threw : Thrown → Stop

pub record Stepped : Type 0 where
  pub machine : Machine
  pub ran : List Ran
  pub stop : Stop

abbrev pub is_return : Word → Bool
is_return (w.Return a) = true
is_return _ = false

abbrev pub stop_of : Word → Stop
stop_of (w.Return a) = Returned
stop_of _ = RunsOn

abbrev pub after_act : Acted → Machine → Machine
after_act a m = record m { heap = a.heap; marks = m.marks ++ a.writes }

abbrev pub ran_of : ℕ → Acted → List Ran
ran_of node a = record { node = node; reads = a.reads; writes = a.writes } ∷ []

abbrev pub step_ends : Statement → Acted → Machine → Applied → Stepped
step_ends s a m (Ok v) = record { machine = sent s.send (with_value s.word v (after_act a m)); ran = ran_of s.node a; stop = stop_of s.word }
step_ends s a m (Err t) = record { machine = after_act a m; ran = ran_of s.node a; stop = Threw t }

abbrev pub step_of : Statement → Machine → Acted → Stepped
step_of s m a = step_ends s a m a.ends

-- one statement, with its send
abbrev pub step : Statement → Machine → Stepped
step s m = step_of s m (acted (act_of s.word (top_values m.frames)) m.heap)

abbrev pub also_ran : List Ran → Stepped → Stepped
also_ran ran after = record after { ran = ran ++ after.ran }

abbrev pub then_steps : Stepped → (Machine → Stepped) → Stop → Stepped
then_steps one rest RunsOn = also_ran one.ran (rest one.machine)
then_steps one rest stop = one

-- one after the other, up to one that returns or throws
abbrev pub steps : List Statement → Machine → Stepped
steps [] m = record { machine = m; ran = []; stop = RunsOn }
steps (s ∷ rest) m = then_steps (step s m) (steps rest) (step s m).stop

-- ---- blocks

abbrev pub block_at : List Block → ℕ → Option Block
block_at blocks zero = None
block_at blocks (suc n) = slice_get blocks n

abbrev pub exit_to : Exit → ℕ
exit_to Leaves = 0
exit_to (Next n) = n

-- The block that comes next. No statement calls a method yet, so a return ends the call.
abbrev pub next_block : Exit → Stop → ℕ
next_block exit RunsOn = exit_to exit
next_block exit _ = 0
