-- What a message names is there at the end that takes it in: no message of one end is refused by the other.
use Rattle.std.specs.Prelude.{◌≡◌, ℕ, ◌<◌, ◌≤◌, true, List, ◌++◌, map, length, Option, Some, None, is_some, slice_get}
use Rattle.std.specs.List.{AllByRecursion}
use Rattle.px_value.specs.declared.value.Value.{Value}
use Rattle.px_value.specs.declared.value.Value.TheVariants.{Ref}
use Rattle.px_value.specs.declared.object.Object.{Object}
use Rattle.px_value.specs.Heap.{cell_at, heap_counted, max_counted}
use Rattle.px_normal.specs.declared.word.Operand.{Operand}
use Rattle.px_normal.specs.declared.word.Word.{Word}
use Rattle.px_normal.specs.declared.word.Word.TheVariants as w
use Rattle.px_blocks.specs.declared.side.Side.{Side}
use Rattle.px_blocks.specs.declared.block.Block.{Block}
use Rattle.px_blocks.specs.declared.block.Deed.{Deed}
use Rattle.px_blocks.specs.declared.block.Deed.TheVariants as deed
use Rattle.px_blocks.specs.declared.block.Statement.{Statement}
use Rattle.px_effects.specs.Run.{Ask}
use Rattle.px_effects.specs.Act.{value_at, new_object}
use Rattle.px_blocks.specs.Plan.{Plan, firsts_of}
use Rattle.px_blocks.specs.Machine.{Slot, Frame, slots_at, Machine}
use Rattle.px_blocks.specs.Message.{SlotAt, CellAt, standing, Transfer, transfer}
use Rattle.px_blocks.specs.One.{One, Step, Goes, Ended, Falls, Waits, Asks, one_run}
use Rattle.px_ends.specs.Agree.{Agree}
use Rattle.px_ends.specs.Fits.{PlainOperand, IsPlainAsk}

-- ---- references

-- a reference leads to one of the first n objects
abbrev pub LeadsIn : ℕ → Value → Type 0
LeadsIn n (Ref o) = o < n
LeadsIn n v = Unit {0}

abbrev pub CellsLead : List Object → Type 0
CellsLead heap = (o i : ℕ) → LeadsIn (length heap) (value_at heap o i)

abbrev pub SlotsLead : ℕ → List Slot → Type 0
SlotsLead n slots = AllByRecursion (λ (s : Slot). LeadsIn n s.value) slots

abbrev pub FramesLead : ℕ → List Frame → Type 0
FramesLead n frames = AllByRecursion (λ (f : Frame). SlotsLead n f.slots) frames

-- every reference leads to an object, and the heap is within its limit
pub record IsSure (m : Machine) : Type 0 where
  pub cells : CellsLead m.heap
  pub frames : FramesLead (length m.heap) m.control.frames
  pub room : heap_counted m.heap ≤ max_counted

-- ---- the message

pub record IsWelcome (plan : Plan) (t : Transfer) (far : Machine) : Type 0 where
  -- the lowest frames are there
  pub base : t.base ≤ length far.control.frames
  -- each slot is in its frame
  pub slots : AllByRecursion (λ (s : SlotAt). is_some (slice_get (slots_at (standing plan t.base t.frames far.control.frames) s.frame) s.slot) ≡ true) t.slots
  -- the new objects find room
  pub room : heap_counted (far.heap ++ map (new_object (firsts_of plan.code)) t.updates.headers) ≤ max_counted
  -- each cell is there
  pub cells : AllByRecursion (λ (c : CellAt). is_some (cell_at (far.heap ++ map (new_object (firsts_of plan.code)) t.updates.headers) c.object c.index) ≡ true) t.updates.cells
  -- each reference leads to an object
  pub slots_lead : AllByRecursion (λ (s : SlotAt). LeadsIn (length (far.heap ++ map (new_object (firsts_of plan.code)) t.updates.headers)) s.value) t.slots
  pub cells_lead : AllByRecursion (λ (c : CellAt). LeadsIn (length (far.heap ++ map (new_object (firsts_of plan.code)) t.updates.headers)) c.value) t.updates.cells

abbrev pub MessagesAreWelcome : Type 0
MessagesAreWelcome = (plan : Plan) (side : Side) (n : ℕ) (near far one : Machine) → Agree plan side near far one → IsSure one → IsWelcome plan (transfer plan n near.control near.heap) far

-- ---- runs stay sure

abbrev pub PlainIf : Option Operand → Type 0
PlainIf None = Unit {0}
PlainIf (Some a) = PlainOperand a

-- no literal of a word that may travel is a reference
abbrev pub PlainWord : Word → Type 0
PlainWord (w.Set to a) = PlainOperand a
PlainWord (w.Put of class field a) = PlainOperand a
PlainWord (w.Store of index a) = PlainOperand a
PlainWord (w.Call to of method args) = PlainOperand of × AllByRecursion PlainOperand args
PlainWord (w.Return a) = PlainIf a
PlainWord _ = Unit {0}

abbrev pub PlainDeed : Deed → Type 0
PlainDeed (deed.Does word) = PlainWord word
PlainDeed _ = Unit {0}

abbrev pub IsPlainBlock : Block → Type 0
IsPlainBlock b = AllByRecursion (λ (s : Statement). PlainDeed s.deed) b.statements

-- no literal is a reference
abbrev pub IsPlainPlan : Plan → Type 0
IsPlainPlan plan = AllByRecursion IsPlainBlock plan.blocks.blocks

-- no literal of a statement that waits is one, either
abbrev pub SureStep : {Q W : Type 0} → Step Q (One W) → Type 0
SureStep (Goes o) = IsSure o.machine
SureStep (Ended o) = IsSure o.machine
SureStep (Falls t o) = Unit {0}
SureStep (Waits op s o) = IsSure o.machine × PlainDeed s.deed
SureStep (Asks q s o) = IsSure o.machine × PlainDeed s.deed

-- A run on the one machine stays so; each of its messages is the message of an end, which is welcome.
abbrev pub RunsStaySure : Type 0 → Type 0 → Type 0
RunsStaySure Q W = (plan : Plan) (ask : Ask Q W) (n : ℕ) (o : One W) → IsPlainPlan plan → IsPlainAsk ask → IsSure o.machine → SureStep (one_run plan ask n o)
