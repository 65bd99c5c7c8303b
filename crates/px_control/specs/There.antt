-- What a message names is there at the end that takes it in.
use Rattle.std.specs.Prelude.{◌≡◌, ℕ, ◌<◌, ◌≤◌, true, List, length, is_some, slice_get}
use Rattle.std.specs.List.{AllByRecursion}
use Rattle.px_value.specs.declared.value.Value.{Value}
use Rattle.px_value.specs.declared.value.Value.TheVariants.{Ref}
use Rattle.px_value.specs.declared.header.Header.{Header}
use Rattle.px_value.specs.declared.object.Object.{Object}
use Rattle.px_value.specs.Heap.{cell_at, heap_counted, max_counted}
use Rattle.px_normal.specs.declared.code.Code.{Code}
use Rattle.px_blocks.specs.Plan.{Plan}
use Rattle.px_blocks.specs.Machine.{Frame, slots_at}
use Rattle.px_blocks.specs.Message.{SlotAt, CellAt, Updates, Transfer, standing}
use Rattle.px_control.specs.Taken.{kind_fits, with_news, updates_fit, is_taken}

-- a reference leads to one of the first n objects
abbrev pub LeadsIn : ℕ → Value → Type 0
LeadsIn n (Ref o) = o < n
LeadsIn n v = Unit {0}

-- an object has a cell for each field of its class, and an array no more elements than there may be
abbrev pub HasLength : Code → Header → Type 0
HasLength code h = kind_fits code h.kind h.length ≡ true

abbrev pub IsCellThere : List Object → CellAt → Type 0
IsCellThere heap c = is_some (cell_at heap c.object c.index) ≡ true

abbrev pub IsSlotThere : List Frame → SlotAt → Type 0
IsSlotThere frames s = is_some (slice_get (slots_at frames s.frame) s.slot) ≡ true

pub record AreThere (code : Code) (u : Updates) (heap : List Object) : Type 0 where
  pub headers : AllByRecursion (HasLength code) u.headers
  -- the new objects find room
  pub room : heap_counted (with_news code u.headers heap) ≤ max_counted
  -- each cell is there
  pub cells : AllByRecursion (IsCellThere (with_news code u.headers heap)) u.cells
  -- each reference leads to an object
  pub lead : AllByRecursion (λ (c : CellAt). LeadsIn (length (with_news code u.headers heap)) c.value) u.cells

pub record IsThere (plan : Plan) (t : Transfer) (frames : List Frame) (heap : List Object) : Type 0 where
  -- the lowest frames are there
  pub base : t.base ≤ length frames
  pub updates : AreThere plan.code t.updates heap
  -- each slot is in its frame
  pub slots : AllByRecursion (IsSlotThere (standing plan t.base t.frames frames)) t.slots
  pub lead : AllByRecursion (λ (s : SlotAt). LeadsIn (length (with_news plan.code t.updates.headers heap)) s.value) t.slots

-- what is taken is what is there, beside a heap within its limit
abbrev pub UpdatesAreTaken : Type 0
UpdatesAreTaken = (code : Code) (u : Updates) (heap : List Object) → heap_counted heap ≤ max_counted → (updates_fit code u heap ≡ true → AreThere code u heap) × (AreThere code u heap → updates_fit code u heap ≡ true)

abbrev pub TransfersAreTaken : Type 0
TransfersAreTaken = (plan : Plan) (t : Transfer) (frames : List Frame) (heap : List Object) → heap_counted heap ≤ max_counted → (is_taken plan t frames heap ≡ true → IsThere plan t frames heap) × (IsThere plan t frames heap → is_taken plan t frames heap ≡ true)
