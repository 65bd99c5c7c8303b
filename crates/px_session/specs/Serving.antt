-- What a session answers to its calls, one after the other.
use Rattle.std.specs.Prelude.{◌≡◌, ℕ, ◌+◌, List, [], ◌∷◌, ◌++◌, length, Option, Some, None}
use Rattle.px_value.specs.declared.value.Value.{Value}
use Rattle.px_value.specs.declared.object.Object.{Object}
use Rattle.px_value.specs.Outcome.{Gives, Throws, Asks}
use Rattle.px_code.specs.declared.side.Side.TheVariants.{App, Db}
use Rattle.px_code.specs.declared.code.Code.{Code}
use Rattle.px_code.specs.declared.plan.Plan.{Plan}
use Rattle.px_code.specs.declared.reply.Done.{Done}
use Rattle.px_code.specs.declared.reply.Reply.{Reply}
use Rattle.px_code.specs.declared.reply.Reply.TheVariants as reply
use Rattle.px_code.specs.Machine.{Machine}
use Rattle.px_code.specs.Sound.{Ending, Finished, Fell, CodeOutcome, run_of, entered, first_block}
use Rattle.px_code.specs.Stale.{Event, NoneStale}
use Rattle.px_wire.specs.declared.updates.Updates.{Updates}
use Rattle.px_wire.specs.declared.message.Message.TheVariants.{Commit}
use Rattle.px_half.specs.Messages.{AreUpdates}
use Rattle.px_pair.specs.Ends.{moves_within, bytes_within}
use Rattle.px_pair.specs.Story.{Happening, Sent, Told, moves_of, bytes_of, events_after}

-- a call: the number of its method from 1, and its arguments
pub record Call : Type 0 where
  pub method : ℕ
  pub args : List Value

-- what a call leaves
pub record Called : Type 0 where
  pub reply : Reply
  pub heap : List Object

-- what calls leave, by the heap before
abbrev pub Calling : Type 0
Calling = List Object → Call → Called

-- ---- by code

abbrev pub reply_of : Option Value → Reply
reply_of None = reply.Void
reply_of (Some v) = reply.Value v

-- an uncaught throw undoes the call, and is the reply
abbrev pub called_as : List Object → CodeOutcome → Called
called_as heap (Gives v s) = record { reply = reply_of v; heap = s.shared.heap }
called_as heap (Throws t s) = record { reply = reply.Threw t; heap = heap }
called_as heap (Asks q s) = absurd q

abbrev pub by_code : Code → Calling
by_code code heap c = called_as heap (run_of code heap c.method c.args)

-- ---- one call

-- What happens in a call of a session that has this heap: it ends with its commit, or throws.
pub data IsStory (plan : Plan) (heap : List Object) (c : Call) : List Happening → Ending → Type 0 where
  commits : {story : List Happening} {m : Machine} {u : Updates} → Told plan App (entered plan.code heap c.method c.args) (first_block plan c.method) story Finished m → AreUpdates (Some plan) (length m.heap) m u → IsStory plan heap c (story ++ Sent Db (Commit u) ∷ []) Finished
  aborts : {story : List Happening} {t : _} {m : Machine} → Told plan App (entered plan.code heap c.method c.args) (first_block plan c.method) story (Fell t) m → IsStory plan heap c story (Fell t)

-- an abort is a message of two bytes
abbrev pub abort_bytes : Ending → ℕ
abort_bytes Finished = 0
abort_bytes (Fell t) = 2

-- what was read, written and brought in a call that was undone is no part of what comes before the next one
abbrev pub events_kept : Ending → (before after : List Event) → List Event
events_kept Finished before after = after
events_kept (Fell t) before after = before

-- What a session tells of a call that it served, after these events: its reply, and what its messages count; no read of it was stale.
pub record IsServed (plan : Plan) (heap : List Object) (c : Call) (reply : Reply) (before : List Event) (done : Done) (after : List Event) : Type 0 where
  pub story : List Happening
  pub ending : Ending
  pub is : IsStory plan heap c story ending
  pub none_stale : NoneStale (events_after story before)
  pub after_is : after ≡ events_kept ending before (events_after story before)
  pub reply_is : done.reply ≡ reply
  pub prints : done.prints ≡ []
  pub moves : done.moves ≡ moves_within (moves_of story)
  pub bytes : done.bytes ≡ bytes_within (bytes_of story + abort_bytes ending)
  -- there is one part, and nothing reads a load yet
  pub part : done.part ≡ 0
  pub avg : done.avg ≡ 0
  pub rehome : done.rehome ≡ 0

-- ---- all calls

-- The calls of a session, one after the other, from a heap and after events; `calling` says what each leaves.
pub data AreServed (calling : Calling) (plan : Plan) : List Object → List Event → List Call → List Done → Type 0 where
  none : {heap : List Object} {events : List Event} → AreServed calling plan heap events [] []
  more : {heap : List Object} {before after : List Event} {c : Call} {calls : List Call} {done : Done} {dones : List Done}
      → IsServed plan heap c (calling heap c).reply before done after → AreServed calling plan (calling heap c).heap after calls dones
      → AreServed calling plan heap before (c ∷ calls) (done ∷ dones)
