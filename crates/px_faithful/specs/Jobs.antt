-- The calls of a job, and what they mean.
use Rattle.std.specs.Prelude.{ℕ, ◌==◌, List, [], ◌∷◌, ◌++◌, length, Option, Some, None, option_to_list, slice_get, if◌then◌else◌}
use Rattle.px_value.specs.declared.value.Value.{Value}
use Rattle.px_value.specs.declared.object.Object.{Object}
use Rattle.px_value.specs.declared.answer.Answer.{Answer}
use Rattle.px_value.specs.Outcome.{Gives, Throws, Asks as Open}
use Rattle.px_code.specs.declared.reply.Reply.TheVariants as reply
use Rattle.px_facts.specs.declared.checked.Entry.{Entry as EntryOf}
use Rattle.px_mean.specs.Facts.{by_number}
use Rattle.px_mean.specs.Calls.{Source}
use Rattle.px_mean.specs.Entry.{first_heap, reply_of}
use Rattle.px_mean.specs.Serial.{Call}
use Rattle.px_mean.specs.Laws.{Ends as Run, on_list}
use Rattle.px_history.specs.Legal.{Calls}
use Rattle.px_history.specs.Serial.{Outcome, Asks, Ends, Meaning, Entry}

abbrev pub Heap : Type 0
Heap = List Object

-- the calls of a session, in their order
abbrev pub calls_of : ℕ → List Call → List Call
calls_of s [] = []
calls_of s (c ∷ cs) = if c.session == s then c ∷ calls_of s cs else calls_of s cs

-- a call of a session, from 1
abbrev pub call_at : List Call → ℕ → ℕ → Option Call
call_at calls s c = by_number (calls_of s calls) c

-- how far a call comes: it asks, or it ends with a reply, its prints and its heap
abbrev pub comes_to : Run → Outcome Heap
comes_to (Gives v s) = Ends (reply_of v) s.prints s.heap
comes_to (Throws t s) = Ends (reply.Threw t) [] s.heap
comes_to (Open q s) = Asks q

abbrev pub entered : Source → Heap → Option EntryOf → List Value → List Answer → Outcome Heap
entered P heap None args answers = Ends reply.Void [] heap
entered P heap (Some entry) args answers = comes_to (on_list P heap entry.method args answers)

abbrev pub called : Source → Heap → Option Call → List Answer → Outcome Heap
called P heap None answers = Ends reply.Void [] heap
called P heap (Some c) answers = entered P heap (slice_get P.facts.main.entries c.entry) c.args answers

-- the calls of a job as the source means them
abbrev pub meaning_of : Source → List Call → Meaning Heap
meaning_of P calls = record { exec = λ s c heap. called P heap (call_at calls s c); first = first_heap P.facts }

-- what of a job histories are held to
abbrev pub job_of : List Call → ℕ → ℕ → Calls
job_of calls retries parts = record { calls = λ s. length (calls_of s calls); retries = retries; parts = parts }

-- the calls of a journal
abbrev pub listed : List Call → List Entry → List Call
listed calls [] = []
listed calls (j ∷ js) = option_to_list (call_at calls j.session j.call) ++ listed calls js
