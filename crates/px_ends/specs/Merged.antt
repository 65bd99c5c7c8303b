-- The heap that both ends together have, and a new plan between two calls.
use Rattle.std.specs.Prelude.{◌≡◌, ℕ, true, cond, not, ◌&&◌, ◌||◌, List, Option, is_some}
use Rattle.px_value.specs.declared.value.Value.{Value}
use Rattle.px_value.specs.declared.object.Object.{Object}
use Rattle.px_value.specs.Heap.{cell_at}
use Rattle.px_blocks.specs.declared.side.Side.{Side}
use Rattle.px_blocks.specs.declared.side.Side.TheVariants.{App, Db}
use Rattle.px_blocks.specs.Sides.{same_side}
use Rattle.px_effects.specs.Act.{Place as Cell, header_at}
use Rattle.px_blocks.specs.Plan.{Part, Plan, kept, home_at}
use Rattle.px_blocks.specs.Machine.{marked, Machine}
use Rattle.px_blocks.specs.Message.{valued, with_cells}
use Rattle.px_ends.specs.Agree.{lacks_of, Split}
use Rattle.px_ends.specs.Calls.{Rests}

-- each side keeps what is at home there
abbrev pub KeepsHome : Plan → Type 0
KeepsHome plan = (site : ℕ) (part : Part) → plan.keep (plan.home site part) site part ≡ true

-- the copy of the side with control, where it has written the cell or the other side lacks it; else the copy at home
abbrev pub merged : Plan → Side → Machine → Machine → ℕ → ℕ → Option Value
merged plan side near far o i =
    cond (marked near.control.marks o i || lacks_of (header_at far.heap o) (header_at near.heap o)) (cell_at near.heap o i)
    (cond (same_side side (home_at plan (header_at near.heap o) i)) (cell_at near.heap o i) (cell_at far.heap o i))

-- it is the one heap, if a side keeps what is at home there
abbrev pub MergedIsOne : Type 0
MergedIsOne = (plan : Plan) (side : Side) (near far one : Machine) (o i : ℕ) → KeepsHome plan → Split plan side near far one → merged plan side near far o i ≡ cell_at one.heap o i

-- between two calls: the copy at home
abbrev pub merged_at_rest : Plan → List Object → List Object → ℕ → ℕ → Option Value
merged_at_rest plan app db o i = cond (same_side App (home_at plan (header_at app o) i)) (cell_at app o i) (cell_at db o i)

abbrev pub MergedAtRest : Type 0
MergedAtRest = (plan : Plan) (app db one : List Object) (o i : ℕ) → KeepsHome plan → Rests plan app db one → merged_at_rest plan app db o i ≡ cell_at one o i

-- ---- another plan

-- these are the cells that the side keeps by the new plan and didn't by the old
abbrev pub AreNewlyKept : Plan → Plan → Side → List Object → List Cell → Type 0
AreNewlyKept old new side heap cells = (o i : ℕ) → is_some (cell_at heap o i) ≡ true → marked cells o i ≡ (kept new side (header_at heap o) i && not (kept old side (header_at heap o) i))

-- the message to DB is first
abbrev pub rehomed_db : List Cell → List Object → List Object → List Object
rehomed_db to_db app db = with_cells (valued app to_db) db

abbrev pub rehomed_app : List Cell → List Cell → List Object → List Object → List Object
rehomed_app to_db to_app app db = with_cells (valued (rehomed_db to_db app db) to_app) app

-- both ends then have the same one heap under the new plan
abbrev pub RehomeRests : Type 0
RehomeRests = (old new : Plan) (app db one : List Object) (to_db to_app : List Cell) → KeepsHome old → Rests old app db one → AreNewlyKept old new Db app to_db → AreNewlyKept old new App app to_app
    → Rests new (rehomed_app to_db to_app app db) (rehomed_db to_db app db) one
