-- A legal history, each of whose events is its session's own, is the serial run of the source.
use Rattle.std.proofs.Common.{◌≡◌, ℕ, zero, suc, ◌+◌, ◌<◌, ◌≤◌, ◌==◌, true, List, [], ◌∷◌, ◌++◌, length, All, Option, Some, None, is_some, slice_get, reverse, refl, sym, ap, ◌∙◌, subst, arith, inl, inr}
use Rattle.std.proofs.lemmas.Bool.{both_ways, cases_Bool, cond-true, cond-false, eqb-true}
use Rattle.std.proofs.lemmas.List.{reverse-append}
use Rattle.px_mean.specs.Serial.{Call}
use Rattle.px_history.specs.declared.event.Event.{Event}
use Rattle.px_history.specs.declared.event.Event.TheVariants.{Begin, Op, Die, End, Drop}
use Rattle.px_history.specs.Attempts.{call_of, is_active}
use Rattle.px_history.specs.Legal.{IsLegal}
use Rattle.px_history.specs.Locking.{core_locks}
use Rattle.px_history.specs.Serial.{Entry, Serial, as_new, journal, call_or_none, IsSerial}
use Rattle.px_history.proofs.Guards.{Guards, table_locks_guard}
use Rattle.px_history.proofs.Book.{begun_active}
use Rattle.px_history.proofs.Progress.{begun_due, some_moves}
use Rattle.px_history.proofs.Counts.{events_few}
use Rattle.px_history.proofs.Serially.{serially, serial_in_order}
use Rattle.px_faithful.specs.Jobs.{Heap, calls_of, meaning_of, job_of}
use Rattle.px_faithful.specs.Faithful.{Job, AreOfSessions, LegalAndOwnIsSerial, SomeoneGoesOn, FewEvents, FewTries, FewInAll}
use Rattle.px_faithful.proofs.Granted.{grants_of}
use Rattle.px_faithful.proofs.Runs.{bounded}
use Rattle.px_faithful.proofs.Totals.{AreWithin, few_in_all as by_totals}
use Rattle.px_faithful.proofs.Tries.{tries_few}
use Rattle.px_faithful.proofs.Stands.{IsCall, AreCalls, runs_all, start_agrees}

core_guard : Guards core_locks
core_guard = table_locks_guard

-- ---- the calls of a journal

abbrev Fits : ℕ → Call → Type 0
Fits n c = (1 ≤ c.session) × (c.session ≤ n)

item_at : (xs : List Call) (i : ℕ) → i < length xs → (x : Call) × (slice_get xs i ≡ Some x)
item_at [] i h = absurd (omega arith)
item_at (x ∷ xs) zero h = (x, refl)
item_at (x ∷ xs) (suc i) h = item_at xs i (omega arith)

some_is : (x y : Call) → ◌≡◌ {A = Option Call} (Some x) (Some y) → x ≡ y
some_is x y e = cc

no_item : {A : Type 0} (x : Call) → ◌≡◌ {A = Option Call} None (Some x) → A
no_item x e = cc

first_or_later : (P : Call → Type 0) (c : Call) (cs : List Call) → P c → ((i : ℕ) (x : Call) → slice_get cs i ≡ Some x → P x) → (i : ℕ) (x : Call) → slice_get (c ∷ cs) i ≡ Some x → P x
first_or_later P c cs p later zero x e = subst P (some_is c x e) p
first_or_later P c cs p later (suc i) x e = later i x e

own_call : (n : ℕ) (calls : List Call) (s : ℕ) → All (Fits n) calls → (i : ℕ) (x : Call) → slice_get (calls_of s calls) i ≡ Some x → (x.session ≡ s) × Fits n x
own_call n [] s a i x e = no_item x e
own_call n (c ∷ cs) s a i x e = elim (cases_Bool (c.session == s)) [
  | inl q ↦ first_or_later (λ x. (x.session ≡ s) × Fits n x) c (calls_of s cs) (eqb-true c.session s q, a 0 c (omega arith)) (own_call n cs s (λ k d l. a (suc k) d (omega arith))) i x
      (sym (ap (λ (xs : List Call). slice_get xs i) (cond-true _ _ _ q)) ∙ e)
  | inr q ↦ own_call n cs s (λ k d l. a (suc k) d (omega arith)) i x (sym (ap (λ (xs : List Call). slice_get xs i) (cond-false _ _ _ q)) ∙ e)
]

is_call : (n : ℕ) (calls : List Call) → All (Fits n) calls → (s c : ℕ) → 1 ≤ c → c ≤ length (calls_of s calls) → (x : Call) × IsCall calls n (record { session = s; call = c }) x
is_call n calls a s zero l m = absurd (omega arith)
is_call n calls a s (suc c) l m =
    let f = item_at (calls_of s calls) c (omega arith) in
    let o = own_call n calls s a c f.0 f.1 in
    (f.0, record { found = f.1; own = o.0; there = subst (λ (t : ℕ). (1 ≤ t) × (t ≤ n)) o.0 o.1 })

active_call : (h : List Event) (s : ℕ) (o : Option ℕ) → is_some o ≡ true → call_of s h ≡ o → call_of s h ≡ Some (call_or_none (call_of s h))
active_call h s None i q = absurd (both_ways _ refl i)
active_call h s (Some c) i q = q ∙ ap (λ (o : Option ℕ). Some (call_or_none o)) (sym q)

end_call : (job : Job) → AreOfSessions job → (h : List Event) → IsLegal (job_of job.calls job.retries job.parts) core_locks h → (s : ℕ) → is_active s h ≡ true → (c : Call) × IsCall job.calls job.sessions (record { session = s; call = call_or_none (call_of s h) }) c
end_call job a h l s i =
    let c = call_or_none (call_of s h) in
    let d = (begun_due (job_of job.calls job.retries job.parts) core_locks h l s c (begun_active h s c (active_call h s (call_of s h) i refl))).0 in
    is_call job.sessions job.calls a s c d.0 d.1

journal_calls : (job : Job) → AreOfSessions job → (h : List Event) → IsLegal (job_of job.calls job.retries job.parts) core_locks h → AreCalls job.calls job.sessions (journal h)
unfolding journal
journal_calls job a [] l = tt
journal_calls job a (Begin s c n ∷ h) l = journal_calls job a h l.1
journal_calls job a (Op s o ∷ h) l = journal_calls job a h l.1
journal_calls job a (Die s o x ∷ h) l = journal_calls job a h l.1
journal_calls job a (End s done ∷ h) l = (end_call job a h l.1 s l.0.active, journal_calls job a h l.1)
journal_calls job a (Drop s ∷ h) l = journal_calls job a h l.1

calls-append : (calls : List Call) (n : ℕ) (xs ys : List Entry) → AreCalls calls n xs → AreCalls calls n ys → AreCalls calls n (xs ++ ys)
calls-append calls n [] ys a b = b
calls-append calls n (x ∷ xs) ys a b = (a.0, calls-append calls n xs ys a.1 b)

calls-reverse : (calls : List Call) (n : ℕ) (js : List Entry) → AreCalls calls n js → AreCalls calls n (reverse js)
calls-reverse calls n [] a = tt
calls-reverse calls n (j ∷ js) a = subst (AreCalls calls n) (sym (reverse-append (j ∷ []) js)) (calls-append calls n (reverse js) (j ∷ []) (calls-reverse calls n js a.1) (a.0, tt))

-- ---- laws

pub legal_and_own_is_serial : LegalAndOwnIsSerial
legal_and_own_is_serial P job T0 h a f =
    let M = meaning_of P job.calls in
    let i : IsSerial M T0 h = serially Heap M (job_of job.calls job.retries job.parts) core_locks core_guard (bounded P job.calls) T0 h f.legal f.own in
    let in_order = serial_in_order Heap M T0 (journal h) in
    let r = runs_all P job.calls job.sessions (reverse (journal h)) (calls-reverse job.calls job.sessions (journal h) (journal_calls job a h f.legal)) (as_new M T0) _ (start_agrees P job.calls job.sessions T0) in
    record {
      told = sym r.told ∙ ap (λ (x : Serial Heap). reverse x.told) in_order ∙ ap reverse i.told;
      tables = r.stands.tables ∙ ap (λ (x : Serial Heap). x.tables) in_order ∙ i.tables;
      heaps = λ s l m. r.stands.heaps s l m ∙ ap (λ (x : Serial Heap). Some (x.heaps s)) in_order ∙ ap (λ (x : Heap). Some x) (i.heaps s);
    }

pub someone_goes_on : SomeoneGoesOn
someone_goes_on P job T0 h f s c d =
    let g = grants_of (job_of job.calls job.retries job.parts) core_locks h f.legal in
    some_moves Heap (meaning_of P job.calls) (job_of job.calls job.retries job.parts) core_locks T0 g.0 h f.legal g.1 s c d

pub few_events : FewEvents
few_events P job T0 h f s = events_few Heap (meaning_of P job.calls) (bounded P job.calls) (job_of job.calls job.retries job.parts) core_locks T0 h f.legal f.own s

pub few_tries : FewTries
few_tries P job T0 h f s w = tries_few (job_of job.calls job.retries job.parts) core_locks h f.legal s w

-- each event is of one of the job's sessions
active_within : (job : Job) → AreOfSessions job → (h : List Event) → IsLegal (job_of job.calls job.retries job.parts) core_locks h → (s : ℕ) → is_active s h ≡ true → (1 ≤ s) × (s ≤ job.sessions)
active_within job a h l s i = (end_call job a h l s i).1.there

events_within : (job : Job) → AreOfSessions job → (h : List Event) → IsLegal (job_of job.calls job.retries job.parts) core_locks h → AreWithin job.sessions h
events_within job a [] l = tt
events_within job a (Begin s c n ∷ h) l = ((is_call job.sessions job.calls a s c (l.0.listed).0 (l.0.listed).1).1.there, events_within job a h l.1)
events_within job a (Op s o ∷ h) l = (active_within job a h l.1 s l.0.active, events_within job a h l.1)
events_within job a (Die s o x ∷ h) l = (active_within job a h l.1 s l.0.active, events_within job a h l.1)
events_within job a (End s d ∷ h) l = (active_within job a h l.1 s l.0.active, events_within job a h l.1)
events_within job a (Drop s ∷ h) l = (active_within job a h l.1 s l.0, events_within job a h l.1)

pub few_in_all : FewInAll
few_in_all P job T0 h a f w = by_totals job.sessions (job.retries + 1) job.calls h a (events_within job a h f.legal) (λ s.
    let one = few_events P job T0 h f s in
    let two = few_tries P job T0 h f s (w s) in
    omega (arith, one, two))
