-- Stale reads, of a list of reads, writes and messages alone.
use Rattle.std.specs.Prelude.{◌≡◌, ℕ, Bool, true, false, cond, not, ◌&&◌, List, [], ◌∷◌, ◌++◌, map}
use Rattle.px_value.specs.declared.value.Value.{Value}
use Rattle.px_value.specs.declared.object.Object.{Object}
use Rattle.px_blocks.specs.declared.side.Side.{Side}
use Rattle.px_blocks.specs.declared.side.Side.TheVariants.{App, Db}
use Rattle.px_blocks.specs.Sides.{other, same_side, same_cell}
use Rattle.px_effects.specs.Act.{Place as Cell, header_at}
use Rattle.px_effects.specs.Run.{Ask}
use Rattle.px_normal.specs.Run.{Ran}
use Rattle.px_blocks.specs.Plan.{Plan, kept}
use Rattle.px_blocks.specs.Machine.{marked, Control}
use Rattle.px_blocks.specs.Message.{CellAt, Updates, updates}
use Rattle.px_blocks.specs.One.{Happening, Did, Sent, AskedAt, ToldAt, Aborted, Committed, One, Step, Goes, Ended, Falls, Waits, Asks, one_run, one_begun}
use Rattle.px_ends.specs.Runs.{GoodRun}
use Rattle.px_ends.specs.Calls.{Attempt, one_kept, GoodSession}

-- what happened at a side, and a message that brought cells to it; the latest stands first
pub data Event : Type 0 where
  Read : Side → Cell → Event
  Wrote : Side → Cell → Event
  Brought : Side → List Cell → Event

abbrev pub is_cell : Cell → Cell → Bool
is_cell c d = same_cell c.object c.index d.object d.index

abbrev pub has_cell : List Cell → Cell → Bool
has_cell cells c = marked cells c.object c.index

-- no event of these writes the cell or brings it to the side
abbrev pub is_quiet : List Event → Side → Cell → Bool
is_quiet [] side c = true
is_quiet (Read at d ∷ events) side c = is_quiet events side c
is_quiet (Wrote at d ∷ events) side c = not (is_cell d c) && is_quiet events side c
is_quiet (Brought at cells ∷ events) side c = not (same_side at side && has_cell cells c) && is_quiet events side c

-- A read of the cell at the side is stale: the last write of it was made at the other side, and no message after that write brought it here.
pub record IsStale (before : List Event) (side : Side) (c : Cell) : Type 0 where
  pub later : List Event
  pub earlier : List Event
  pub split : before ≡ later ++ Wrote (other side) c ∷ earlier
  pub silent : is_quiet later side c ≡ true

-- no read of the list is stale
abbrev pub NoneStale : List Event → Type 0
NoneStale [] = Unit {0}
NoneStale (Read side c ∷ events) = (IsStale events side c → ⊥) × NoneStale events
NoneStale (Wrote side c ∷ events) = NoneStale events
NoneStale (Brought side cells ∷ events) = NoneStale events

-- ---- of what happened

abbrev pub with_reads : Side → List Cell → List Event → List Event
with_reads side [] events = events
with_reads side (c ∷ cells) events = with_reads side cells (Read side c ∷ events)

abbrev pub with_writes : Side → List Cell → List Event → List Event
with_writes side [] events = events
with_writes side (c ∷ cells) events = with_writes side cells (Wrote side c ∷ events)

-- each statement reads, and then writes
abbrev pub with_ran : Side → List Ran → List Event → List Event
with_ran side [] events = events
with_ran side (r ∷ ran) events = with_ran side ran (with_writes side r.writes (with_reads side r.reads events))

abbrev pub place_of : CellAt → Cell
place_of c = record { object = c.object; index = c.index }

abbrev pub places_in : Updates → List Cell
places_in u = map place_of u.cells

abbrev pub with_happening : Happening → List Event → List Event
with_happening (Did side ran) events = with_ran side ran events
with_happening (Sent side t) events = Brought side (places_in t.updates) ∷ events
with_happening (Committed u) events = Brought Db (places_in u) ∷ events
with_happening (AskedAt side q) events = events
with_happening (ToldAt side said) events = events
with_happening (Aborted side t) events = events

abbrev pub events_after : List Happening → List Event → List Event
events_after [] events = events
events_after (h ∷ story) events = events_after story (with_happening h events)

-- ---- what holds as a run goes on

-- the test of a stale read
abbrev pub is_stale : List Event → Side → ℕ → ℕ → Bool
is_stale [] side o i = false
is_stale (Read at d ∷ events) side o i = is_stale events side o i
is_stale (Wrote at d ∷ events) side o i = cond (same_cell d.object d.index o i) (not (same_side at side)) (is_stale events side o i)
is_stale (Brought at cells ∷ events) side o i = cond (same_side at side && marked cells o i) false (is_stale events side o i)

-- each side has the last write of what it keeps, but for what the other has written since control came
pub record IsCurrent (plan : Plan) (side : Side) (c : Control) (heap : List Object) (events : List Event) : Type 0 where
  pub here : (o i : ℕ) → kept plan side (header_at heap o) i ≡ true → is_stale events side o i ≡ false
  pub there : (o i : ℕ) → kept plan (other side) (header_at heap o) i ≡ true → marked c.marks o i ≡ false → is_stale events (other side) o i ≡ false
  pub none : NoneStale events

-- between two calls
pub record IsFresh (plan : Plan) (heap : List Object) (events : List Event) : Type 0 where
  pub at_app : (o i : ℕ) → kept plan App (header_at heap o) i ≡ true → is_stale events App o i ≡ false
  pub at_db : (o i : ℕ) → kept plan Db (header_at heap o) i ≡ true → is_stale events Db o i ≡ false
  pub none : NoneStale events

abbrev pub story_of : {Q W : Type 0} → Step Q (One W) → List Happening
story_of (Goes o) = o.story
story_of (Ended o) = o.story
story_of (Falls t o) = o.story
story_of (Waits op s o) = o.story
story_of (Asks q s o) = o.story

-- no read of a call is stale, whatever came before, if the sides were fresh
abbrev pub NothingStale : Type 0 → Type 0 → Type 0
NothingStale Q W = (plan : Plan) (ask : Ask Q W) (method : ℕ) (args : List Value) (n : ℕ) (heap : List Object) (world : W) (events : List Event) → IsFresh plan heap events → GoodRun plan ask n (one_begun plan method args heap world)
    → NoneStale (events_after (story_of (one_run plan ask n (one_begun plan method args heap world))) events)

-- ---- of a session

-- a new session is fresh
abbrev pub NewIsFresh : Type 0
NewIsFresh = (plan : Plan) (heap : List Object) → IsFresh plan heap []

-- what stays of a call: where it was undone, nothing
abbrev pub events_kept : {Q W : Type 0} → Plan → List Event → Step Q (One W) → List Event
events_kept plan events (Ended o) = Brought Db (places_in (updates plan o.machine.control o.machine.heap)) ∷ events_after o.story events
events_kept plan events _ = events

abbrev pub NoneStaleIn : {Q W : Type 0} → Plan → Ask Q W → List (Attempt W) → List Object → List Event → Type 0
NoneStaleIn plan ask [] heap events = Unit {0}
NoneStaleIn {Q} {W} plan ask (a ∷ attempts) heap events =
    let call : Step Q (One W) = one_run plan ask a.blocks (one_begun plan a.method a.args heap a.world) in
    NoneStale (events_after (story_of call) events) × NoneStaleIn plan ask attempts (one_kept heap call) (events_kept plan events call)

-- no read of any call of a session is stale
abbrev pub SessionNothingStale : Type 0 → Type 0 → Type 0
SessionNothingStale Q W = (plan : Plan) (ask : Ask Q W) (attempts : List (Attempt W)) (heap : List Object) (events : List Event) → IsFresh plan heap events → GoodSession plan ask attempts heap → NoneStaleIn plan ask attempts heap events
