-- What an engine keeps.
use Rattle.std.specs.Prelude.{◌≡◌, ℕ, ◌<◌, List, [], reverse, slice_index_or}
use Rattle.px_rows.specs.Tables.{Tables, Old}
use Rattle.px_locks.specs.declared.want.Grant.{Grant}
use Rattle.px_history.specs.declared.event.Event.{Event}
use Rattle.px_history.specs.Attempts.{stamps}
use Rattle.px_history.specs.Legal.{Calls, IsLegal}
use Rattle.px_history.specs.Locking.{core_locks}
use Rattle.px_history.specs.State.{InPlace, Undoes}
use Rattle.px_history.specs.Booked.{IsBooked}
use Rattle.px_engine.specs.declared.engine.Engine.{Engine}
use Rattle.px_engine.specs.declared.seat.Seat.{Seat}
use Rattle.px_engine.specs.Seats.{AreSeats}

-- the tables, the grants and the old rows of each session are those of a legal history
pub record IsKept (job : Calls) (T0 T : Tables) (grants : List Grant) (undos : List (List Old)) (events : List Event) : Type 0 where
  pub legal : IsLegal job core_locks (reverse events)
  pub in_place : InPlace T0 T (reverse events)
  pub booked : IsBooked core_locks grants (reverse events)
  pub undoes : (s : ℕ) → Undoes T0 T (slice_index_or undos s []) s (reverse events)

-- the seats and the number of calls that have begun are those of a history, whose latest event stands first
pub record IsSeated (job : Calls) (seats : List Seat) (begun retries : ℕ) (h : List Event) : Type 0 where
  pub seats_are : AreSeats job h seats
  pub count : begun ≡ stamps h
  pub tries : retries ≡ job.retries
  pub bound : job.retries < 255

abbrev pub IsSound : Calls → Tables → Engine → Type 0
IsSound job T0 e = IsKept job T0 e.tables e.book.grants e.undos.items e.journal.events × IsSeated job e.seats.items e.begun e.retries (reverse e.journal.events)
