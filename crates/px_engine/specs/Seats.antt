-- What is kept of each session, as the history has it. The latest event stands first.
use Rattle.std.specs.Prelude.{◌≡◌, ℕ, ◌+◌, ◌<◌, ◌≤◌, ◌==◌, ◌&&◌, ◌||◌, nat_lt, Bool, true, false, not, List, Option, Some, None, if◌then◌else◌, slice_index_or}
use Rattle.px_history.specs.declared.event.Event.{Event}
use Rattle.px_history.specs.declared.event.Event.TheVariants.{Begin, Op, Die, End, Drop}
use Rattle.px_history.specs.Attempts.{call_of, is_active, begun, stamps, stamp_of_call, deaths, has_ended, is_over, Killer, killer_of}
use Rattle.px_history.specs.Legal.{Calls}
use Rattle.px_history.specs.Serial.{call_or_none}
use Rattle.px_engine.specs.declared.seat.KilledBy.{KilledBy}
use Rattle.px_engine.specs.declared.seat.Seat.{Seat}

-- before the first call
abbrev pub new_seat : Seat
new_seat = record { call = 0; active = false; ended = false; stamp = 0; deaths = 0; killer = None }

-- the seat of a session; that of one which isn't there is as new
abbrev pub seat_at : List Seat → ℕ → Seat
seat_at seats s = slice_index_or seats s new_seat

-- ---- what events do to the seat of their session

-- the call is begun: again, or for the first time
abbrev pub begun_seat : ℕ → ℕ → Seat → Seat
begun_seat c stamp t = if t.call == c then record t { active = true } else record { call = c; active = true; ended = false; stamp = stamp; deaths = 0; killer = None }

abbrev pub died_seat : ℕ → ℕ → Seat → Seat
died_seat x call t = record t { active = false; deaths = t.deaths + 1; killer = Some (record { session = x; call = call }) }

abbrev pub ended_seat : Seat → Seat
ended_seat t = record t { active = false; ended = true }

abbrev pub dropped_seat : Seat → Seat
dropped_seat t = record t { active = false }

abbrev pub seat_after : Event → List Event → Seat → Seat
seat_after (Begin s c a) h t = begun_seat c (stamps h + 1) t
seat_after (Op s o) h t = t
seat_after (Die s o x) h t = died_seat x (call_or_none (call_of x h)) t
seat_after (End s d) h t = ended_seat t
seat_after (Drop s) h t = dropped_seat t

-- ---- what a seat tells

-- the call is over: an earlier one, or one that ended or died as often as it may
abbrev pub has_passed : Seat → ℕ → ℕ → Bool
has_passed t retries c = nat_lt c t.call || ((c == t.call) && (t.ended || nat_lt retries t.deaths))

abbrev pub as_killer : Option KilledBy → Option Killer
as_killer None = None
as_killer (Some k) = Some (record { session = k.session; call = Some k.call })

-- the seat tells the stamp, the deaths and the killer of the call that was begun last, and which calls are over
pub record IsSeat (job : Calls) (h : List Event) (s : ℕ) (t : Seat) : Type 0 where
  pub active : is_active s h ≡ t.active
  pub call : t.active ≡ true → call_of s h ≡ Some t.call
  pub some : t.active ≡ true → 1 ≤ t.call
  pub few : t.active ≡ true → t.deaths ≤ job.retries
  pub stamp : 1 ≤ t.call → (begun s t.call h ≡ true) × (stamp_of_call s t.call h ≡ t.stamp)
  pub died : deaths s t.call h ≡ t.deaths
  pub ended : has_ended s t.call h ≡ t.ended
  pub killer : killer_of s t.call h ≡ as_killer t.killer
  pub killed : (k : KilledBy) → t.killer ≡ Some k → 1 ≤ k.call
  pub earlier : (c : ℕ) → 1 ≤ c → c < t.call → is_over job.retries s c h ≡ true
  pub beyond : (c : ℕ) → t.call < c → (begun s c h ≡ false) × (deaths s c h ≡ 0) × (has_ended s c h ≡ false) × (killer_of s c h ≡ None)

-- so it is of each session
abbrev pub AreSeats : Calls → List Event → List Seat → Type 0
AreSeats job h seats = (s : ℕ) → IsSeat job h s (seat_at seats s)

-- ---- what a begin finds

-- the call of the holder isn't over
abbrev pub is_held : List Seat → ℕ → KilledBy → Bool
is_held seats retries k = not (has_passed (seat_at seats k.session) retries k.call)

abbrev pub held_at : List Seat → ℕ → Option KilledBy → Option ℕ
held_at seats retries None = None
held_at seats retries (Some k) = if is_held seats retries k then Some k.session else None

-- the session whose call has to end before this one is begun
abbrev pub held_by : List Seat → ℕ → Seat → ℕ → Option ℕ
held_by seats retries t c = if t.call == c then held_at seats retries t.killer else None

abbrev pub deaths_in : Seat → ℕ → ℕ
deaths_in t c = if t.call == c then t.deaths else 0
