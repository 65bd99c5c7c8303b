-- Faithful histories. A history has its latest event first.
use Rattle.std.specs.Prelude.{◌≡◌, ℕ, ◌≤◌, ◌+◌, ◌*◌, false, List, All, length, reverse, Some}
use Rattle.px_rows.specs.Tables.{Tables}
use Rattle.px_mean.specs.Facts.{by_number}
use Rattle.px_mean.specs.Calls.{Source}
use Rattle.px_mean.specs.Serial.{Call, serial}
use Rattle.px_mean.specs.Asks.{by_tables}
use Rattle.px_history.specs.declared.event.Event.{Event}
use Rattle.px_history.specs.Legal.{IsLegal}
use Rattle.px_history.specs.Locking.{core_locks}
use Rattle.px_history.specs.State.{tables_of}
use Rattle.px_history.specs.Serial.{IsOwn, journal, told_of, heap_of}
use Rattle.px_history.specs.Moves.{IsDue, CanMove, made, tries}
use Rattle.px_faithful.specs.Drops.{dropped}
use Rattle.px_faithful.specs.Jobs.{calls_of, meaning_of, job_of, listed}

-- a job of sessions from 1 to a number, with its calls and what it allows
pub record Job : Type 0 where
  pub sessions : ℕ
  pub calls : List Call
  pub retries : ℕ
  pub parts : ℕ

abbrev pub AreOfSessions : Job → Type 0
AreOfSessions job = All (λ c. (1 ≤ c.session) × (c.session ≤ job.sessions)) job.calls

-- legal, and each event what its session's attempt comes to
pub record IsLegalAndOwn (P : Source) (job : Job) (T0 : Tables) (h : List Event) : Type 0 where
  pub legal : IsLegal (job_of job.calls job.retries job.parts) core_locks h
  pub own : IsOwn (meaning_of P job.calls) T0 h

-- the calls that ended, in the order of their ends
abbrev pub ended_calls : List Call → List Event → List Call
ended_calls calls h = listed calls (reverse (journal h))

-- the history is the run of these calls one at a time
pub record IsSerialRun (P : Source) (job : Job) (T0 : Tables) (h : List Event) : Type 0 where
  pub told : (serial by_tables P job.sessions T0 (ended_calls job.calls h)).0 ≡ reverse (told_of h)
  pub tables : ((serial by_tables P job.sessions T0 (ended_calls job.calls h)).1).world ≡ tables_of T0 h
  pub heaps : (s : ℕ) → 1 ≤ s → s ≤ job.sessions → by_number ((serial by_tables P job.sessions T0 (ended_calls job.calls h)).1).heaps s ≡ Some (heap_of (meaning_of P job.calls) T0 s h)

abbrev pub LegalAndOwnIsSerial : Type 0
LegalAndOwnIsSerial = (P : Source) (job : Job) (T0 : Tables) (h : List Event) → AreOfSessions job → IsLegalAndOwn P job T0 h → IsSerialRun P job T0 h

-- while a call of a session isn't over some session can make an event
abbrev pub SomeoneGoesOn : Type 0
SomeoneGoesOn = (P : Source) (job : Job) (T0 : Tables) (h : List Event) → IsLegalAndOwn P job T0 h
    → (s c : ℕ) → IsDue (job_of job.calls job.retries job.parts) h s c → (y : ℕ) × CanMove (meaning_of P job.calls) (job_of job.calls job.retries job.parts) core_locks T0 h y

abbrev pub FewEvents : Type 0
FewEvents = (P : Source) (job : Job) (T0 : Tables) (h : List Event) → IsLegalAndOwn P job T0 h → (s : ℕ) → made s h ≤ 102 * tries s h

-- a session that gave no call up tries each call as often as it may, at most
abbrev pub FewTries : Type 0
FewTries = (P : Source) (job : Job) (T0 : Tables) (h : List Event) → IsLegalAndOwn P job T0 h → (s : ℕ) → dropped s h ≡ false → tries s h ≤ length (calls_of s job.calls) * (job.retries + 1)

-- where no call was given up, all sessions together make few events
abbrev pub FewInAll : Type 0
FewInAll = (P : Source) (job : Job) (T0 : Tables) (h : List Event) → AreOfSessions job → IsLegalAndOwn P job T0 h → ((s : ℕ) → dropped s h ≡ false) → length h ≤ 102 * (length job.calls * (job.retries + 1))
