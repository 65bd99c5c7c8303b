-- Control goes over: what the message of one end leaves at the other.
use Rattle.std.specs.Prelude.{◌≡◌, ℕ, true, false, List, [], ◌∷◌, ◌++◌, map, take, drop, length, Some, nat_lt, nat_le, ◌≤◌}
use Rattle.std.specs.List.{list_all, AllByRecursion}
use Rattle.px_value.specs.declared.object.Object.{Object}
use Rattle.px_code.specs.declared.side.Side.{Side}
use Rattle.px_code.specs.declared.frame.Frame.{Frame}
use Rattle.px_code.specs.declared.frame.Slot.{Slot}
use Rattle.px_code.specs.declared.word.Word.{Word}
use Rattle.px_code.specs.declared.word.Word.TheVariants as w
use Rattle.px_code.specs.declared.block.Block.{Block}
use Rattle.px_code.specs.declared.block.Statement.{Statement}
use Rattle.px_code.specs.declared.plan.Plan.{Plan}
use Rattle.px_code.specs.Places.{other}
use Rattle.px_code.specs.Fits.{Fits, header_at}
use Rattle.px_code.specs.Cut.{IsPlaced}
use Rattle.px_code.specs.Law.{IsNoLiteralReference, NoLiteralReference, AreStatements, MachineFits}
use Rattle.px_code.specs.Machine.{Machine, steps}
use Rattle.px_wire.specs.declared.slot.SlotAt.{SlotAt}
use Rattle.px_wire.specs.declared.updates.Updates.{Updates}
use Rattle.px_wire.specs.declared.transfer.Transfer.{Transfer}
use Rattle.px_half.specs.Messages.{AreUpdates, frame_told, written_slots}
use Rattle.px_half.specs.Absorbed.{blank_frame, with_slots, settled_frame, slot_count, with_room, with_cells, leads, frame_fits, with_transfer}
use Rattle.px_pair.specs.Agree.{seen, CopiesAgree, Agree}
use Rattle.px_pair.specs.Law.{NamesClasses}

-- ---- the stack

-- slots alike, but for those that were written since control came
abbrev pub SlotsLike : List Slot → List Slot → Type 0
SlotsLike [] [] = Unit {0}
SlotsLike (s ∷ slots) (t ∷ others) = (s.written ≡ false → s.value ≡ t.value) × SlotsLike slots others
SlotsLike _ _ = ⊥

pub record FrameLike (x y : Frame) : Type 0 where
  pub method : x.method ≡ y.method
  pub back : x.back ≡ y.back
  pub slots : SlotsLike x.slots y.slots

abbrev pub FramesLike : List Frame → List Frame → Type 0
FramesLike [] [] = Unit {0}
FramesLike (x ∷ frames) (y ∷ others) = FrameLike x y × FramesLike frames others
FramesLike _ _ = ⊥

-- the stack that a message leaves at the other end, but for its slots: the lowest frames stay, and blank ones stand on them
abbrev pub bare : Plan → Machine → Machine → List Frame
bare plan near far = take near.base far.frames ++ map (blank_frame plan) (map frame_told (drop near.base near.frames))

-- the slots of the message make it the stack of the side with control
abbrev pub StackCrosses : Type 0
StackCrosses = (plan : Plan) (near far : Machine) → FramesLike near.frames (bare plan near far) → map seen (map settled_frame (with_slots (written_slots 0 near.frames) (bare plan near far))) ≡ map seen near.frames

-- each of these slots is there
abbrev pub SlotsAreThere : Type 0
SlotsAreThere = (plan : Plan) (near far : Machine) (t : Transfer) → t.base ≡ near.base → t.frames ≡ map frame_told (drop near.base near.frames) → FramesLike near.frames (bare plan near far) → list_all (λ (s : SlotAt). nat_lt s.slot (slot_count plan t far.frames s.frame)) (written_slots 0 near.frames) ≡ true

-- the statements of a block leave both stacks alike
abbrev pub StepsKeepStacks : Type 0
StepsKeepStacks = (plan : Plan) (statements : List Statement) (near far : Machine) → FramesLike near.frames (bare plan near far) → FramesLike (steps statements near).machine.frames (bare plan (steps statements near).machine far)

-- ---- the heap

-- what the updates of a message leave at the other end
pub record HeapCrossed (plan : Plan) (side : Side) (near far one : Machine) (u : Updates) : Type 0 where
  -- everything that the message names is there
  pub room : with_room plan u far.heap ≡ Some far.heap
  pub headers : (place : ℕ) → header_at (with_cells u.cells far.heap) place ≡ header_at one.heap place
  -- the other end now has the newest value of what it keeps, and this end of what it keeps
  pub copies : (place index : ℕ) → CopiesAgree plan (other side) (record far { heap = with_cells u.cells far.heap; marks = [] }) near one.heap place index

-- where both ends know all objects
abbrev pub HeapCrosses : Type 0
HeapCrosses = (plan : Plan) (side : Side) (near far one : Machine) (u : Updates) → Agree plan side near far one → Fits plan.code one.heap → AreUpdates (Some plan) (length near.heap) near u → HeapCrossed plan side near far one u

-- ---- control

-- every reference in a slot leads to an object
abbrev pub SlotsLead : List Object → List Frame → Type 0
SlotsLead heap frames = AllByRecursion (λ (f : Frame). AllByRecursion (λ (s : Slot). leads heap s.value ≡ true) f.slots) frames

-- the stack of the end with control can be told to the other end
pub record CanTell (plan : Plan) (near far : Machine) : Type 0 where
  pub like : FramesLike near.frames (bare plan near far)
  pub base : near.base ≤ length far.frames
  pub frames : AllByRecursion (λ (f : Frame). frame_fits plan (frame_told f) ≡ true) near.frames
  pub lead : SlotsLead near.heap near.frames

-- a message of the end with control, to a block that is there
pub record Tells (plan : Plan) (near : Machine) (t : Transfer) : Type 0 where
  pub block : nat_le t.block (length plan.blocks.blocks) ≡ true
  pub base : t.base ≡ near.base
  pub frames : t.frames ≡ map frame_told (drop near.base near.frames)
  pub slots : t.slots ≡ written_slots 0 near.frames
  pub updates : AreUpdates (Some plan) (length near.heap) near t.updates

-- what an end has that has sent its message: nothing is marked or named
abbrev pub quiet : Machine → Machine
quiet m = record m { marks = []; named = [] }

-- the other end takes it in, has control, and both have the one heap and the one stack again
pub record ControlCrossed (plan : Plan) (side : Side) (near far one : Machine) (t : Transfer) : Type 0 where
  pub machine : Machine
  pub taken : with_transfer plan t far ≡ Some machine
  pub agree : Agree plan (other side) machine (quiet near) one
  pub can_tell : CanTell plan machine (quiet near)

abbrev pub ControlCrosses : Type 0
ControlCrosses = (plan : Plan) (side : Side) (near far one : Machine) (t : Transfer) → Agree plan side near far one → Fits plan.code one.heap → CanTell plan near far → Tells plan near t → ControlCrossed plan side near far one t

-- ---- what can be told stays so

-- no literal reference is returned
abbrev pub ReturnsNoLiteral : Word → Type 0
ReturnsNoLiteral (w.Return (Some a)) = IsNoLiteralReference a
ReturnsNoLiteral word = Unit {0}

abbrev pub ReturnNoLiterals : List Statement → Type 0
ReturnNoLiterals statements = AllByRecursion (λ (s : Statement). ReturnsNoLiteral s.word) statements

-- The statements of a block leave an end whose stack can be told. On the one heap, whose stack is the same, every reference leads to an object.
abbrev pub StepsCanTell : Type 0
StepsCanTell = (plan : Plan) (b : Block) (near far one : Machine) → NamesClasses plan.code → AllByRecursion (IsPlaced plan.code plan.placement.sides b) b.statements → AreStatements plan.code b.method b.statements → NoLiteralReference b.statements → ReturnNoLiterals b.statements → MachineFits plan.code b.method one → Agree plan b.side near far one → CanTell plan near far → CanTell plan (steps b.statements near).machine far
