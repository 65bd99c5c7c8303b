-- What happens in a call: the statements that run at each side, and the messages between them. It is told of the one heap, and of two ends.
use Rattle.std.specs.Prelude.{◌≡◌, ℕ, ◌+◌, List, [], ◌∷◌, ◌++◌, map, drop, length, Some}
use Rattle.px_value.specs.declared.thrown.Thrown.{Thrown}
use Rattle.px_code.specs.declared.side.Side.{Side}
use Rattle.px_code.specs.declared.side.Side.TheVariants.{App}
use Rattle.px_code.specs.declared.block.Block.{Block}
use Rattle.px_code.specs.declared.plan.Plan.{Plan}
use Rattle.px_code.specs.Places.{other}
use Rattle.px_code.specs.CodeRun.{Ran}
use Rattle.px_code.specs.Stale.{Event, Brought}
use Rattle.px_code.specs.Machine.{Machine, steps, Threw, block_at, next_block}
use Rattle.px_code.specs.Sound.{Ending, Finished, Fell}
use Rattle.px_wire.specs.declared.transfer.Transfer.{Transfer as TransferTold}
use Rattle.px_wire.specs.declared.updates.Updates.{Updates}
use Rattle.px_wire.specs.declared.message.Message.{Message}
use Rattle.px_wire.specs.declared.message.Message.TheVariants.{Transfer, Commit}
use Rattle.px_wire.specs.Spelling.{spelling}
use Rattle.px_half.specs.End.{side_of_block}
use Rattle.px_half.specs.Messages.{AreUpdates, frame_told, written_slots}
use Rattle.px_half.specs.Absorbed.{settled_frame, with_transfer}
use Rattle.px_pair.specs.Crossing.{quiet}
use Rattle.px_pair.specs.Fresh.{with_ran, place_of}

-- what happens, in order
pub data Happening : Type 0 where
  -- statements run at a side
  Did : Side → List Ran → Happening
  -- a message goes to a side
  Sent : Side → Message → Happening

-- the message with which control goes to the other side before a block, by the machine of the side that has it
pub record HandsOver (plan : Plan) (m : Machine) (n : ℕ) (t : TransferTold) : Type 0 where
  pub block : t.block ≡ n
  -- no statement counts a turn yet
  pub turns : t.turns ≡ 0
  pub base : t.base ≡ m.base
  pub frames : t.frames ≡ map frame_told (drop m.base m.frames)
  pub slots : t.slots ≡ written_slots 0 m.frames
  pub updates : AreUpdates (Some plan) (length m.heap) m t.updates

-- ---- on one heap

-- control has gone over: nothing is written since then, and all frames stood
abbrev pub handed : Machine → Machine
handed m = record { heap = m.heap; frames = map settled_frame m.frames; base = length m.frames; marks = []; named = [] }

-- A call on one heap, from a block on, where control is at a side: a message goes over exactly where the next block is at the other side; block 0 is the end, at APP.
pub data Told (plan : Plan) : Side → Machine → ℕ → List Happening → Ending → Machine → Type 0 where
  finished : {m : Machine} → Told plan App m 0 [] Finished m
  runs : {side : Side} {m last : Machine} {n : ℕ} {b : Block} {story : List Happening} {ending : Ending}
      → block_at plan.blocks.blocks n ≡ Some b → b.side ≡ side → ((t : Thrown) → (steps b.statements m).stop ≡ Threw t → ⊥)
      → Told plan side (steps b.statements m).machine (next_block b.exit (steps b.statements m).stop) story ending last
      → Told plan side m n (Did side (steps b.statements m).ran ∷ story) ending last
  falls : {side : Side} {m : Machine} {n : ℕ} {b : Block} {t : Thrown}
      → block_at plan.blocks.blocks n ≡ Some b → b.side ≡ side → (steps b.statements m).stop ≡ Threw t
      → Told plan side m n (Did side (steps b.statements m).ran ∷ []) (Fell t) (steps b.statements m).machine
  crosses : {side : Side} {m last : Machine} {n : ℕ} {t : TransferTold} {story : List Happening} {ending : Ending}
      → side_of_block plan.blocks.blocks n ≡ other side → HandsOver plan m n t
      → Told plan (other side) (handed m) n story ending last
      → Told plan side m n (Sent (other side) (Transfer t) ∷ story) ending last

-- ---- at two ends

-- The same at two ends: blocks run at the end with control, and what it sends is taken in by the other end.
pub data Talks (plan : Plan) : Side → Machine → Machine → ℕ → List Happening → Ending → Side → Machine → Machine → Type 0 where
  finished : {near far : Machine} → Talks plan App near far 0 [] Finished App near far
  runs : {side last : Side} {near far last_near last_far : Machine} {n : ℕ} {b : Block} {story : List Happening} {ending : Ending}
      → block_at plan.blocks.blocks n ≡ Some b → b.side ≡ side → ((t : Thrown) → (steps b.statements near).stop ≡ Threw t → ⊥)
      → Talks plan side (steps b.statements near).machine far (next_block b.exit (steps b.statements near).stop) story ending last last_near last_far
      → Talks plan side near far n (Did side (steps b.statements near).ran ∷ story) ending last last_near last_far
  falls : {side : Side} {near far : Machine} {n : ℕ} {b : Block} {t : Thrown}
      → block_at plan.blocks.blocks n ≡ Some b → b.side ≡ side → (steps b.statements near).stop ≡ Threw t
      → Talks plan side near far n (Did side (steps b.statements near).ran ∷ []) (Fell t) side (steps b.statements near).machine far
  crosses : {side last : Side} {near far new last_near last_far : Machine} {n : ℕ} {t : TransferTold} {story : List Happening} {ending : Ending}
      → side_of_block plan.blocks.blocks n ≡ other side → HandsOver plan near n t → with_transfer plan t far ≡ Some new
      → Talks plan (other side) new (quiet near) n story ending last last_near last_far
      → Talks plan side near far n (Sent (other side) (Transfer t) ∷ story) ending last last_near last_far

-- ---- the statements that ran

abbrev pub ran_in : List Happening → List Ran
ran_in [] = []
ran_in (Did side ran ∷ story) = ran ++ ran_in story
ran_in (Sent side message ∷ story) = ran_in story

-- ---- what is counted

abbrev pub transfers_in : Message → ℕ
transfers_in (Transfer t) = 1
transfers_in (Commit u) = 0

-- how often control went over
abbrev pub moves_of : List Happening → ℕ
moves_of [] = 0
moves_of (Did side ran ∷ story) = moves_of story
moves_of (Sent side message ∷ story) = transfers_in message + moves_of story

-- the length of all messages
abbrev pub bytes_of : List Happening → ℕ
bytes_of [] = 0
bytes_of (Did side ran ∷ story) = bytes_of story
bytes_of (Sent side message ∷ story) = length (spelling message) + bytes_of story

-- ---- what was read, written and brought, the latest first

abbrev pub cells_of : Message → Updates
cells_of (Transfer t) = t.updates
cells_of (Commit u) = u

abbrev pub with_happening : Happening → List Event → List Event
with_happening (Did side ran) events = with_ran side ran events
with_happening (Sent side message) events = Brought side (map place_of (cells_of message).cells) ∷ events

-- after what was before
abbrev pub events_after : List Happening → List Event → List Event
events_after [] events = events
events_after (h ∷ story) events = events_after story (with_happening h events)
