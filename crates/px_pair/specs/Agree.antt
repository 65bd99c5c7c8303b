-- Two ends that together have one heap and one stack. `near` is the machine of the side with control, `far` the other one, `one` the machine on the one heap.
use Rattle.std.specs.Prelude.{◌≡◌, ℕ, true, false, List, map, Some, is_some}
use Rattle.px_value.specs.declared.value.Value.{Value}
use Rattle.px_value.specs.declared.object.Object.{Object}
use Rattle.px_value.specs.declared.header.Header.{Header}
use Rattle.px_value.specs.Heap.{cell_at}
use Rattle.px_code.specs.declared.side.Side.{Side}
use Rattle.px_code.specs.declared.frame.Frame.{Frame}
use Rattle.px_code.specs.declared.frame.Slot.{Slot}
use Rattle.px_code.specs.declared.plan.Plan.{Plan}
use Rattle.px_code.specs.Places.{other, home_in, part_by}
use Rattle.px_code.specs.Sends.{Keeps}
use Rattle.px_code.specs.Fits.{header_at}
use Rattle.px_code.specs.Machine.{Machine}
use Rattle.px_half.specs.Messages.{is_marked, is_named}

-- ---- stacks

-- a frame without the marks of its slots
pub record Seen : Type 0 where
  pub method : ℕ
  pub back : ℕ
  pub values : List Value

abbrev pub seen : Frame → Seen
seen f = record { method = f.method; back = f.back; values = map (λ (s : Slot). s.value) f.slots }

-- ---- heaps

-- a side keeps the cell of an object
abbrev pub KeepsCell : Plan → Side → List Object → ℕ → ℕ → Type 0
KeepsCell plan side heap place index = (h : Header) → header_at heap place ≡ Some h → Keeps plan.code plan.placement.sides side h.site (part_by h.kind index)

-- One cell, as both ends have it: the side with control has the newest value of what it keeps and of what it has written; the other side has that of what it keeps, but for what was written since control came.
pub record CopiesAgree (plan : Plan) (side : Side) (near far : Machine) (heap : List Object) (place index : ℕ) : Type 0 where
  pub near_there : is_some (cell_at near.heap place index) ≡ is_some (cell_at heap place index)
  pub far_there : is_some (cell_at far.heap place index) ≡ is_some (cell_at heap place index)
  pub kept : KeepsCell plan side heap place index → cell_at near.heap place index ≡ cell_at heap place index
  pub written : is_marked near.marks place index ≡ true → cell_at near.heap place index ≡ cell_at heap place index
  pub far_kept : KeepsCell plan (other side) heap place index → is_marked near.marks place index ≡ false → cell_at far.heap place index ≡ cell_at heap place index

-- what was written and the other side keeps is named by a send
abbrev pub AllNamed : Plan → Side → Machine → List Object → Type 0
AllNamed plan side near heap = (place index : ℕ) → is_marked near.marks place index ≡ true → KeepsCell plan (other side) heap place index → is_named near.named (home_in plan.code plan.placement.sides (header_at heap place) index) place ≡ true

-- both ends together have the one heap, and the stack of the side with control is the one stack
pub record Agree (plan : Plan) (side : Side) (near far one : Machine) : Type 0 where
  pub frames : map seen near.frames ≡ map seen one.frames
  pub near_headers : (place : ℕ) → header_at near.heap place ≡ header_at one.heap place
  pub far_headers : (place : ℕ) → header_at far.heap place ≡ header_at one.heap place
  pub copies : (place index : ℕ) → CopiesAgree plan side near far one.heap place index
  pub named : AllNamed plan side near one.heap
