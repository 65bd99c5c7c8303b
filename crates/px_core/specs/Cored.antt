-- What a contract sees of a core, and what its calls ask.
use Rattle.std.specs.Prelude.{◌≡◌, ℕ, ◌≤◌, true, false, List, length, map, reverse}
use Rattle.px_value.specs.declared.statement.TableOp.{TableOp}
use Rattle.px_code.specs.declared.reply.Done.{Done}
use Rattle.px_facts.specs.declared.checked.Checked.{Checked}
use Rattle.px_rows.specs.Tables.{Tables}
use Rattle.px_mean.specs.Program.{source_from}
use Rattle.px_mean.specs.Serial.{Call}
use Rattle.px_job.specs.declared.job.Call.{Call as CallOfFile}
use Rattle.px_job.specs.declared.job.Job.{Job as JobOfFile}
use Rattle.px_history.specs.declared.event.Event.{Event}
use Rattle.px_history.specs.Attempts.{is_active}
use Rattle.px_history.specs.Legal.{Calls, MayEnd, IsLegal}
use Rattle.px_history.specs.Locking.{core_locks}
use Rattle.px_history.specs.State.{InPlace, tables_of}
use Rattle.px_history.specs.Serial.{Outcome, Asks, Meaning, outcome_of, EndedWith, IsOwn}
use Rattle.px_faithful.specs.Jobs.{Heap, meaning_of, job_of}
use Rattle.px_faithful.specs.Faithful.{Job, AreOfSessions, IsSerialRun}

-- the program, the job and the tables that it began with, and the events in their order
pub record Cored : Type 0 where
  pub program : Checked
  pub job : JobOfFile
  pub first : Tables
  pub events : List Event

-- ---- the job

abbrev pub asked_call : CallOfFile → Call
asked_call c = record { session = c.session; entry = c.entry; args = c.args }

-- what of a file's job histories are about
abbrev pub told_job : JobOfFile → Job
told_job job = record { sessions = job.settings.sessions; calls = map asked_call job.calls; retries = job.settings.retries; parts = length job.parts }

abbrev pub calls_of_job : JobOfFile → Calls
calls_of_job job = job_of (told_job job).calls (told_job job).retries (told_job job).parts

abbrev pub meaning_by : Checked → JobOfFile → Meaning Heap
meaning_by program job = meaning_of (source_from program) (told_job job).calls

-- the calls are of the job's sessions, and are tried again as often as a job may say
pub record IsServable (job : JobOfFile) : Type 0 where
  pub sessions : AreOfSessions (told_job job)
  pub retries : job.settings.retries ≤ 9

-- ---- the history

-- the latest event first
abbrev pub history_of : Cored → List Event
history_of c = reverse c.events

abbrev pub calls_in : Cored → Calls
calls_in c = calls_of_job c.job

abbrev pub IsSameCore : Cored → Cored → Type 0
IsSameCore c d = (d.program ≡ c.program) × (d.job ≡ c.job) × (d.first ≡ c.first)

-- how far the session's attempt has come
abbrev pub outcome_in : Cored → ℕ → Outcome Heap
outcome_in c s = outcome_of (meaning_by c.program c.job) c.first s (history_of c)

-- the session's attempt asks this next
pub record AsksNext (c : Cored) (s : ℕ) (o : TableOp) : Type 0 where
  pub active : is_active s (history_of c) ≡ true
  pub asked : outcome_in c s ≡ Asks o

-- the session's attempt has ended so
pub record EndsNext (c : Cored) (s : ℕ) (done : Done) : Type 0 where
  pub may : MayEnd (calls_in c) (history_of c) s done
  pub ended : EndedWith (outcome_in c s) done

-- its history is legal, each event is what its session's attempt comes to, and it is the run of the calls that ended, one at a time
pub record IsFaithfulCore (c : Cored) : Type 0 where
  pub legal : IsLegal (calls_in c) core_locks (history_of c)
  pub own : IsOwn (meaning_by c.program c.job) c.first (history_of c)
  pub serially : IsSerialRun (source_from c.program) (told_job c.job) c.first (history_of c)

-- the tables in place; where no session is active they are those of the history
pub record AreTables (c : Cored) (T : Tables) : Type 0 where
  pub in_place : InPlace c.first T (history_of c)
  pub at_rest : ((s : ℕ) → is_active s (history_of c) ≡ false) → T ≡ tables_of c.first (history_of c)
