-- What happens in a call at two ends, as reads, writes and messages, and that no read of it is stale.
use Rattle.std.specs.Prelude.{◌≡◌, ℕ, true, false, is_some, List, [], ◌∷◌, map, length, Some}
use Rattle.px_value.specs.declared.object.Object.{Object}
use Rattle.px_value.specs.Heap.{cell_at}
use Rattle.px_code.specs.declared.side.Side.{Side}
use Rattle.px_code.specs.declared.side.Side.TheVariants.{App, Db}
use Rattle.px_code.specs.declared.cell.Cell.{Cell}
use Rattle.px_code.specs.declared.block.Block.{Block}
use Rattle.px_code.specs.declared.plan.Plan.{Plan}
use Rattle.px_code.specs.Places.{other}
use Rattle.px_code.specs.Fits.{Fits}
use Rattle.px_code.specs.CodeRun.{Ran}
use Rattle.px_code.specs.Stale.{Event, Read, Wrote, Brought, IsStale, NoneStale}
use Rattle.px_code.specs.Law.{MachineFits}
use Rattle.px_code.specs.Machine.{Machine, steps, block_at}
use Rattle.px_code.specs.Sound.{Ending}
use Rattle.px_wire.specs.declared.cell.CellAt.{CellAt}
use Rattle.px_wire.specs.declared.updates.Updates.{Updates}
use Rattle.px_half.specs.Messages.{is_marked, AreUpdates}
use Rattle.px_pair.specs.Agree.{KeepsCell, Agree}
use Rattle.px_pair.specs.Law.{NamesClasses}
use Rattle.px_pair.specs.Crossing.{FramesLike, bare, quiet}
use Rattle.px_pair.specs.Calls.{RunsAtBoth, finished, runs, falls, crosses, AreGoodBlocks}

-- ---- events, the latest first

abbrev pub with_reads : Side → List Cell → List Event → List Event
with_reads side [] events = events
with_reads side (c ∷ cells) events = with_reads side cells (Read side c ∷ events)

abbrev pub with_writes : Side → List Cell → List Event → List Event
with_writes side [] events = events
with_writes side (c ∷ cells) events = with_writes side cells (Wrote side c ∷ events)

-- what statements read and wrote at a side
abbrev pub with_ran : Side → List Ran → List Event → List Event
with_ran side [] events = events
with_ran side (r ∷ ran) events = with_ran side ran (with_writes side r.writes (with_reads side r.reads events))

abbrev pub place_of : CellAt → Cell
place_of c = record { object = c.object; index = c.index }

-- what happened in a call, after what was before
unfoldable pub events_of : (plan : Plan) (side : Side) (near far : Machine) (n : ℕ) (ran : List Ran) (ending : Ending) (last : Side) (last_near last_far : Machine) → RunsAtBoth plan side near far n ran ending last last_near last_far → List Event → List Event
events_of plan _ near far _ _ _ _ _ _ finished events = events
events_of plan side near far n _ ending last last_near last_far (runs {b = b} {ran = ran} is at going after) events = events_of plan side _ far _ ran ending last last_near last_far after (with_ran side (steps b.statements near).ran events)
events_of plan side near far n _ _ _ _ _ (falls {b = b} is at fell) events = with_ran side (steps b.statements near).ran events
events_of plan side near far n ran ending last last_near last_far (crosses {new = new} {t = t} tells at taken after) events = events_of plan (other side) new (quiet near) n ran ending last last_near last_far after (Brought (other side) (map place_of t.updates.cells) ∷ events)

-- the cells that were written are there, where a message tells them
unfoldable pub MarksThere : (plan : Plan) (side : Side) (near far : Machine) (n : ℕ) (ran : List Ran) (ending : Ending) (last : Side) (last_near last_far : Machine) → RunsAtBoth plan side near far n ran ending last last_near last_far → Type 0
MarksThere plan _ near far _ _ _ _ _ _ finished = Unit {0}
MarksThere plan side near far n _ ending last last_near last_far (runs {b = b} {ran = ran} is at going after) = MarksThere plan side _ far _ ran ending last last_near last_far after
MarksThere plan side near far n _ _ _ _ _ (falls is at fell) = Unit {0}
MarksThere plan side near far n ran ending last last_near last_far (crosses {new = new} tells at taken after) = ((place index : ℕ) → is_marked near.marks place index ≡ true → is_some (cell_at near.heap place index) ≡ true) × MarksThere plan (other side) new (quiet near) n ran ending last last_near last_far after

-- no side's copy of what it keeps is old, but for what the side with control wrote since control came
pub record IsCurrent (plan : Plan) (side : Side) (heap : List Object) (marks : List Cell) (events : List Event) : Type 0 where
  pub here : (c : Cell) → KeepsCell plan side heap c.object c.index → IsStale events side c → ⊥
  pub there : (c : Cell) → KeepsCell plan (other side) heap c.object c.index → is_marked marks c.object c.index ≡ false → IsStale events (other side) c → ⊥

-- no read is stale, and no copy is old at the end
abbrev pub IsFresh : Plan → Side → List Object → List Cell → List Event → Type 0
IsFresh plan side heap marks events = IsCurrent plan side heap marks events × NoneStale events

-- No read of the call is stale. Which object is what doesn't change in it, so the heap at its begin says who keeps what.
abbrev pub NothingStale : Type 0
NothingStale = (plan : Plan) → NamesClasses plan.code → AreGoodBlocks plan
    → (side last : Side) (near far last_near last_far : Machine) (n : ℕ) (ran : List Ran) (ending : Ending) (d : RunsAtBoth plan side near far n ran ending last last_near last_far)
    → (one : Machine) → Agree plan side near far one → FramesLike near.frames (bare plan near far) → Fits plan.code one.heap → ((b : Block) → block_at plan.blocks.blocks n ≡ Some b → MachineFits plan.code b.method one)
    → MarksThere plan side near far n ran ending last last_near last_far d
    → (events : List Event) → IsFresh plan side one.heap near.marks events → IsFresh plan last one.heap last_near.marks (events_of plan side near far n ran ending last last_near last_far d events)

-- after the commit of APP no copy is old, and the next call may begin
abbrev pub CommitsLeaveFresh : Type 0
CommitsLeaveFresh = (plan : Plan) (near far one : Machine) (u : Updates) → Agree plan App near far one → AreUpdates (Some plan) (length near.heap) near u → ((place index : ℕ) → is_marked near.marks place index ≡ true → is_some (cell_at near.heap place index) ≡ true)
    → (events : List Event) → IsFresh plan App one.heap near.marks events → IsFresh plan App one.heap [] (Brought Db (map place_of u.cells) ∷ events)
