-- Each call keeps what a core keeps.
use Rattle.std.proofs.Common.{◌≡◌, Result, Ok, Err, IfOk, OnErr, ℕ, zero, suc, ◌+◌, ◌<◌, ◌≤◌, true, All, List, [], ◌∷◌, ◌++◌, reverse, length, refl, sym, ap, ◌∙◌, subst, arith, inl, inr}
use Rattle.std.proofs.lemmas.Bool.{both_ways, cases_lt, cond-false, ne_eqb}
use Rattle.std.proofs.lemmas.List.{reverse-append}
use Rattle.px_value.specs.declared.statement.TableOp.{TableOp}
use Rattle.px_facts.specs.declared.checked.Checked.{Checked}
use Rattle.px_rows.specs.Tables.{Tables}
use Rattle.px_mean.specs.Program.{source_from}
use Rattle.px_mean.specs.Serial.{Call}
use Rattle.px_job.specs.declared.job.Job.{Job as JobOfFile}
use Rattle.px_history.specs.declared.event.Event.{Event}
use Rattle.px_history.specs.declared.event.Event.TheVariants.{Begin, Op, Die}
use Rattle.px_history.specs.Attempts.{session_of, is_active, deaths}
use Rattle.px_history.specs.Legal.{Calls}
use Rattle.px_history.specs.Locking.{core_locks}
use Rattle.px_history.specs.Moves.{IsDue}
use Rattle.px_history.specs.Serial.{Asks, outcome_of, IsOwnAt, IsOwn}
use Rattle.px_history.proofs.Place.{rest_in_place}
use Rattle.px_faithful.specs.Jobs.{calls_of, job_of}
use Rattle.px_faithful.specs.Faithful.{Job, AreOfSessions}
use Rattle.px_faithful.proofs.Whole.{legal_and_own_is_serial}
use Rattle.px_engine.specs.declared.engine.Begun.{Begun}
use Rattle.px_engine.specs.declared.engine.Begun.TheVariants.{Began, Waits as Holds}
use Rattle.px_engine.specs.declared.engine.Engine.{Engine}
use Rattle.px_engine.specs.declared.engine.Opped.{Opped}
use Rattle.px_engine.specs.declared.engine.Opped.TheVariants.{Did, Waits, Died}
use Rattle.px_engine.specs.declared.seat.Seat.{Seat}
use Rattle.px_engine.specs.Seats.{AreSeats, seat_at, new_seat}
use Rattle.px_engine.specs.Sound.{IsSound}
use Rattle.px_engine.specs.Told.{IsBegun, BeginLeaves, IsOpped, OpLeaves}
use Rattle.px_core.specs.Active.{without, active_after, active_in}
use Rattle.px_core.specs.Cored.{told_job, calls_of_job, meaning_by, IsServable, IsFaithfulCore, AreTables}
use Rattle.px_core.specs.Kept.{IsKeptBy}
use Rattle.px_core.proofs.Keeping.{room_out, room_some}

-- ---- which sessions have a seat

no_seat : (seats : List Seat) (s : ℕ) → length seats ≤ s → seat_at seats s ≡ new_seat
no_seat [] s l = refl
no_seat (t ∷ ts) zero l = absurd (omega arith)
no_seat (t ∷ ts) (suc s) l = no_seat ts s (omega arith)

active_seated : (job : Calls) (h : List Event) (seats : List Seat) → AreSeats job h seats → (s : ℕ) → is_active s h ≡ true → s < length seats
active_seated job h seats a s i = elim (cases_lt s (length seats)) [
  | inl l ↦ l
  | inr m ↦ absurd (both_ways _ (ap (λ (t : Seat). t.active) (no_seat seats s (omega (arith, m)))) (sym (a s).active ∙ i))
]

no_calls : (n : ℕ) (calls : List Call) (s : ℕ) → All (λ c. (1 ≤ c.session) × (c.session ≤ n)) calls → n < s → calls_of s calls ≡ []
no_calls n [] s a l = refl
no_calls n (c ∷ cs) s a l =
    let in_range = a 0 c (omega arith) in
    let m = in_range.1 in
    cond-false _ _ _ (ne_eqb c.session s (λ q. omega (arith, m, l, q))) ∙ no_calls n cs s (λ k d u. a (suc k) d (omega arith)) l

due_listed : (job : Job) → AreOfSessions job → (h : List Event) (s c : ℕ) → IsDue (job_of job.calls job.retries job.parts) h s c → s ≤ job.sessions
due_listed job a h s c u = elim (cases_lt job.sessions s) [
  | inl l ↦
      let none : length (calls_of s job.calls) ≡ 0 = ap length (no_calls job.sessions job.calls s a l) in
      let first = (u.listed).0 in
      let last = (u.listed).1 in
      absurd (omega arith)
  | inr m ↦ omega (arith, m)
]

-- ---- what is kept

module _ (program : Checked) (job : JobOfFile) (first : Tables) (e : Engine) (k : IsKeptBy program job first e) where
  pub next_seated : (s c : ℕ) → IsDue (calls_of_job job) (reverse e.journal.events) s c → s < length e.seats.items
  next_seated s c u = let l = due_listed (told_job job) k.of_sessions (reverse e.journal.events) s c u in let m = k.seated in omega arith

  pub now_seated : (s : ℕ) → is_active s (reverse e.journal.events) ≡ true → s < length e.seats.items
  now_seated s i = active_seated (calls_of_job job) (reverse e.journal.events) e.seats.items ((k.sound).1).seats_are s i

  pub now_listed : (s : ℕ) → is_active s (reverse e.journal.events) ≡ true → s < length e.undos.items
  now_listed s i = subst (λ (n : ℕ). s < n) (sym k.many) (now_seated s i)

  pub now_room : (s : ℕ) → is_active s (reverse e.journal.events) ≡ true → 0 < e.journal.spare
  now_room s i = room_some (reverse e.journal.events) s e.journal.spare i k.room

  -- no event is added
  pub kept_same : (e' : Engine) → e'.journal.events ≡ e.journal.events → IsSound (calls_of_job job) first e' → (length e'.undos.items ≡ length e.undos.items) × (length e'.seats.items ≡ length e.seats.items) → e.journal.spare ≤ e'.journal.spare → IsKeptBy program job first e'
  kept_same e' ev sound places sp = record {
    sound = sound;
    own = subst (λ (es : List Event). IsOwn (meaning_by program job) first (reverse es)) (sym ev) k.own;
    room = subst (λ (es : List Event). length (active_in (reverse es)) ≤ e'.journal.spare) (sym ev) (let r = k.room in omega (arith, sp));
    many = places.0 ∙ k.many ∙ sym places.1;
    seated = subst (λ (n : ℕ). job.settings.sessions < n) (sym places.1) k.seated;
    of_sessions = k.of_sessions;
  }

  -- one event more
  pub kept_next : (x : Event) → IsOwnAt (meaning_by program job) first (reverse e.journal.events) x → (e' : Engine) → e'.journal.events ≡ e.journal.events ++ x ∷ []
      → IsSound (calls_of_job job) first e' → (length e'.undos.items ≡ length e.undos.items) × (length e'.seats.items ≡ length e.seats.items)
      → length (active_after x (active_in (reverse e.journal.events))) ≤ e'.journal.spare → IsKeptBy program job first e'
  kept_next x o e' ev sound places room =
      let r : x ∷ reverse e.journal.events ≡ reverse e'.journal.events = sym (reverse-append e.journal.events (x ∷ [])) ∙ ap reverse (sym ev) in
      record {
        sound = sound;
        own = subst (IsOwn (meaning_by program job) first) r (o, k.own);
        room = subst (λ (h : List Event). length (active_in h) ≤ e'.journal.spare) r room;
        many = places.0 ∙ k.many ∙ sym places.1;
        seated = subst (λ (n : ℕ). job.settings.sessions < n) (sym places.1) k.seated;
        of_sessions = k.of_sessions;
      }

  -- an event that ends an attempt
  pub kept_out : (x : Event) → IsOwnAt (meaning_by program job) first (reverse e.journal.events) x → ((xs : List ℕ) → active_after x xs ≡ without (session_of x) xs) → is_active (session_of x) (reverse e.journal.events) ≡ true
      → (e' : Engine) → e'.journal.events ≡ e.journal.events ++ x ∷ [] → IsSound (calls_of_job job) first e' → (length e'.undos.items ≡ length e.undos.items) × (length e'.seats.items ≡ length e.seats.items)
      → e'.journal.spare + 1 ≡ e.journal.spare → IsKeptBy program job first e'
  kept_out x o out a e' ev sound places sp =
      kept_next x o e' ev sound places
      (subst (λ (xs : List ℕ). length xs ≤ e'.journal.spare) (sym (out (active_in (reverse e.journal.events)))) (room_out (reverse e.journal.events) (session_of x) e.journal.spare e'.journal.spare a k.room sp))

  pub kept_faithful : IsFaithfulCore (record { program = program; job = job; first = first; events = e.journal.events })
  kept_faithful = record {
    legal = ((k.sound).0).legal;
    own = k.own;
    serially = legal_and_own_is_serial (source_from program) (told_job job) first (reverse e.journal.events) k.of_sessions (record { legal = ((k.sound).0).legal; own = k.own });
  }

  pub kept_tables : AreTables (record { program = program; job = job; first = first; events = e.journal.events }) e.tables
  kept_tables = record {
    in_place = ((k.sound).0).in_place;
    at_rest = rest_in_place (calls_of_job job) core_locks first e.tables (reverse e.journal.events) ((k.sound).0).in_place ((k.sound).0).legal;
  }

  -- what a begin leaves
  pub kept_begin : {E : Type 0} (r : Result Begun E) (s c : ℕ) (e' : Engine) → IsDue (calls_of_job job) (reverse e.journal.events) s c → IfOk r (λ told. IsBegun (calls_of_job job) told s c e.journal.events e'.journal.events) → IfOk r (λ told. BeginLeaves told e.journal.spare e'.journal.spare) → OnErr r (e' ≡ e)
      → IsSound (calls_of_job job) first e' → (length e'.undos.items ≡ length e.undos.items) × (length e'.seats.items ≡ length e.seats.items) → IsKeptBy program job first e'
  kept_begin (Ok Began) s c e' u told leaves same sound places = kept_next (Begin s c (deaths s c (reverse e.journal.events) + 1)) tt e' told.0 sound places (let r = k.room in omega (arith, leaves))
  kept_begin (Ok (Holds x)) s c e' u told leaves same sound places = kept_same e' told.0 sound places (omega (arith, leaves))
  kept_begin (Err x) s c e' u told leaves same sound places = subst (IsKeptBy program job first) (sym same) k

  -- what an operation leaves
  pub kept_op : {E : Type 0} (r : Result Opped E) (s : ℕ) (o : TableOp) (e' : Engine) → is_active s (reverse e.journal.events) ≡ true → outcome_of (meaning_by program job) first s (reverse e.journal.events) ≡ Asks o
      → IfOk r (λ told. IsOpped first s o told e.journal.events e'.journal.events) → IfOk r (λ told. OpLeaves told e.journal.spare e'.journal.spare) → OnErr r (e'.journal.events ≡ e.journal.events) → OnErr r (e.journal.spare ≤ e'.journal.spare)
      → IsSound (calls_of_job job) first e' → (length e'.undos.items ≡ length e.undos.items) × (length e'.seats.items ≡ length e.seats.items) → IsKeptBy program job first e'
  kept_op (Ok (Did answer)) s o e' i asked told leaves same more sound places = kept_next (Op s o) asked e' told.0 sound places (let r = k.room in omega (arith, leaves))
  kept_op (Ok (Waits x back)) s o e' i asked told leaves same more sound places = kept_same e' told.0 sound places (omega (arith, leaves))
  kept_op (Ok (Died x)) s o e' i asked told leaves same more sound places = kept_out (Die s o x) asked (λ xs. refl) i e' told.0 sound places leaves
  kept_op (Err x) s o e' i asked told leaves same more sound places = kept_same e' same sound places more

-- a core without events
pub kept_new : (program : Checked) (job : JobOfFile) (first : Tables) (e : Engine) → IsServable job → e.journal.events ≡ [] → IsSound (calls_of_job job) first e → (length e.undos.items ≡ job.settings.sessions + 1) × (length e.seats.items ≡ job.settings.sessions + 1) → IsKeptBy program job first e
kept_new program job first e fits none sound places = record {
  sound = sound;
  own = subst (λ (es : List Event). IsOwn (meaning_by program job) first (reverse es)) (sym none) tt;
  room = subst (λ (es : List Event). length (active_in (reverse es)) ≤ e.journal.spare) (sym none) (omega arith);
  many = places.0 ∙ sym places.1;
  seated = let m = places.1 in omega arith;
  of_sessions = fits.sessions;
}
