-- Two ends that together have one heap and one stack. `near` is the machine of the side with control, `far` the other one, `one` the machine on the one heap.
use Rattle.std.specs.Prelude.{◌≡◌, ℕ, ◌≤◌, Bool, true, false, List, [], ◌∷◌, map, take, drop, length, Option, Some, None, is_some}
use Rattle.px_value.specs.declared.value.Value.{Value}
use Rattle.px_value.specs.declared.header.Header.{Header}
use Rattle.px_value.specs.declared.object.Object.{Object}
use Rattle.px_value.specs.Heap.{cell_at}
use Rattle.px_blocks.specs.declared.side.Side.{Side}
use Rattle.px_blocks.specs.declared.side.Side.TheVariants.{App, Db}
use Rattle.px_blocks.specs.Sides.{other}
use Rattle.px_effects.specs.Act.{Place as Cell}
use Rattle.px_blocks.specs.Plan.{Plan, kept, first_at}
use Rattle.px_effects.specs.Act.{header_of, header_at}
use Rattle.px_blocks.specs.Machine.{Slot, Frame, marked, named, Control, Machine}
use Rattle.px_blocks.specs.Message.{frame_told, standing}

-- ---- one cell

-- a cell as both ends have it, and the one heap. `lacks`: far hasn't got its object. `first`: its default
pub record Copies : Type 0 where
  pub near : Option Value
  pub far : Option Value
  pub one : Option Value
  pub first : Option Value
  pub lacks : Bool
  pub written : Bool
  pub near_keeps : Bool
  pub far_keeps : Bool

-- Near has the newest value of what it keeps and of what it has written; far has that of what it keeps, but for what was written since control came. A cell that far lacks is near's own: near has its newest value, which is the default where it wasn't written.
pub record Holds (c : Copies) : Type 0 where
  pub near_there : is_some c.near ≡ is_some c.one
  pub far_there : c.lacks ≡ false → is_some c.far ≡ is_some c.one
  pub first_there : c.lacks ≡ true → is_some c.first ≡ is_some c.one
  pub written_there : c.written ≡ true → is_some c.one ≡ true
  pub near_kept : c.near_keeps ≡ true → c.near ≡ c.one
  pub near_written : c.written ≡ true → c.near ≡ c.one
  pub far_kept : c.far_keeps ≡ true → c.lacks ≡ false → c.written ≡ false → c.far ≡ c.one
  pub new : c.lacks ≡ true → c.written ≡ false → c.first ≡ c.one
  pub new_near : c.lacks ≡ true → c.near ≡ c.one

-- ---- heaps

abbrev pub headers : List Object → List Header
headers heap = map header_of heap

abbrev pub lacks_of : Option Header → Option Header → Bool
lacks_of None (Some h) = true
lacks_of _ _ = false

abbrev pub copies_of : Plan → Side → Bool → Option Header → Option Header → Option Value → Option Value → Option Value → ℕ → Copies
copies_of plan side written far_header header near far one i = record {
  near = near;
  far = far;
  one = one;
  first = first_at plan header i;
  lacks = lacks_of far_header header;
  written = written;
  near_keeps = kept plan side header i;
  far_keeps = kept plan (other side) header i;
}

abbrev pub copies : Plan → Side → List Cell → List Object → List Object → List Object → ℕ → ℕ → Copies
copies plan side marks near far one o i = copies_of plan side (marked marks o i) (header_at far o) (header_at one o) (cell_at near o i) (cell_at far o i) (cell_at one o i) i

-- far has the first objects of the one heap
pub record Heaps (plan : Plan) (side : Side) (known : ℕ) (marks : List Cell) (near far one : List Object) : Type 0 where
  pub near_headers : headers near ≡ headers one
  pub far_headers : headers far ≡ take known (headers one)
  pub known_in : known ≤ length one
  pub holds : (o i : ℕ) → Holds (copies plan side marks near far one o i)

-- ---- stacks

-- slots alike, but for those that were written since control came
abbrev pub SlotsLike : List Slot → List Slot → Type 0
SlotsLike [] [] = Unit {0}
SlotsLike (s ∷ slots) (t ∷ others) = (s.written ≡ false → s.value ≡ t.value) × SlotsLike slots others
SlotsLike _ _ = ⊥

pub record FrameLike (x y : Frame) : Type 0 where
  pub method : x.method ≡ y.method
  pub back : x.back ≡ y.back
  pub slots : SlotsLike x.slots y.slots

abbrev pub FramesLike : List Frame → List Frame → Type 0
FramesLike [] [] = Unit {0}
FramesLike (x ∷ frames) (y ∷ others) = FrameLike x y × FramesLike frames others
FramesLike _ _ = ⊥

-- the stack that a message leaves at the other end, but for its slots
abbrev pub bare : Plan → Control → List Frame → List Frame
bare plan c lower = standing plan c.base (drop c.base (map frame_told c.frames)) lower

-- The frames that stood when control came and stand are equal at both ends, but for slots written since; a new frame has defaults, but for those.
pub record Stacks (plan : Plan) (c : Control) (lower : List Frame) : Type 0 where
  pub within : c.base ≤ length c.frames
  pub reached : c.base ≤ length lower
  pub like : FramesLike c.frames (bare plan c lower)

-- ---- names

-- what was written and the other side keeps is named by a send
abbrev pub AllNamed : Plan → Side → Control → List Object → Type 0
AllNamed plan side c heap = (o i : ℕ) → marked c.marks o i ≡ true → kept plan (other side) (header_at heap o) i ≡ true → named plan (header_at heap o) c.named o i ≡ true

-- ---- all of it

abbrev pub at_app : {A : Type 0} → Side → A → A → A
at_app App near far = near
at_app Db near far = far

-- within a statement, and after a throw
pub record Split (plan : Plan) (side : Side) (near far one : Machine) : Type 0 where
  pub control : near.control ≡ one.control
  pub heaps : Heaps plan side one.control.known one.control.marks near.heap far.heap one.heap
  pub stacks : Stacks plan one.control far.control.frames
  pub prints : at_app side near.prints far.prints ≡ one.prints

-- between two statements
pub record Agree (plan : Plan) (side : Side) (near far one : Machine) : Type 0 where
  pub split : Split plan side near far one
  pub named : AllNamed plan side one.control one.heap
