-- Calls that run one after the other, and a history that is faithful to them.
use Rattle.std.specs.Prelude.{◌≡◌, ℕ, zero, suc, ◌<◌, ◌==◌, ◌&&◌, List, [], ◌∷◌, length, Option, Some, None, if◌then◌else◌}
use Rattle.px_value.specs.declared.statement.TableOp.{TableOp}
use Rattle.px_value.specs.declared.answer.Answer.{Answer}
use Rattle.px_rows.specs.Tables.{Tables}
use Rattle.px_rows.specs.Means.{after, answer_to}
use Rattle.px_history.specs.declared.event.Event.{Event}
use Rattle.px_history.specs.declared.event.Event.TheVariants.{Begin, Op, Die, End, Drop}
use Rattle.px_code.specs.declared.reply.Done.{Done}
use Rattle.px_code.specs.declared.reply.Reply.{Reply}
use Rattle.px_code.specs.declared.reply.Shown.{Shown}
use Rattle.px_history.specs.Attempts.{is_of, call_of}
use Rattle.px_history.specs.Legal.{Calls, IsLegal}
use Rattle.px_history.specs.Locking.{LockForm}
use Rattle.px_history.specs.State.{is_throw, commits, tables_of, answers_of}

-- how far a call comes with a list of answers: it asks an operation, or ends with a reply, its printed lines and its heap
pub data Outcome (Heap : Type 0) : Type 0 where
  Asks : TableOp → Outcome Heap
  Ends : Reply → List (List ℕ) → Heap → Outcome Heap

abbrev pub max_ops : ℕ
max_ops = 100

-- it asks at most n operations
abbrev pub AsksAtMost : {Heap : Type 0} → ℕ → (List Answer → Outcome Heap) → Type 0
AsksAtMost n run = (told : List Answer) (o : TableOp) → run told ≡ Asks o → length told < n

-- the meaning of the calls of a job: of a session's call from a heap with a list of answers, and the heap of a session as new
pub record Meaning (Heap : Type 0) : Type 0 where
  pub exec : ℕ → ℕ → Heap → List Answer → Outcome Heap
  pub first : Heap

-- each call asks at most so many operations
abbrev pub IsBounded : {Heap : Type 0} → Meaning Heap → Type 0
IsBounded {Heap} M = (s c : ℕ) (heap : Heap) → AsksAtMost max_ops (M.exec s c heap)

-- ---- one call after the other

pub record Ended (Heap : Type 0) : Type 0 where
  pub reply : Reply
  pub prints : List (List ℕ)
  pub heap : Heap
  pub tables : Tables

abbrev pub gone_on : {Heap : Type 0} → Outcome Heap → Tables → (TableOp → Option (Ended Heap)) → Option (Ended Heap)
gone_on (Asks o) T next = next o
gone_on (Ends reply prints heap) T next = Some (record { reply = reply; prints = prints; heap = heap; tables = T })

-- a call whose operations are answered from the tables at once, of at most n operations
unfoldable pub run_on : {Heap : Type 0} → ℕ → (List Answer → Outcome Heap) → Tables → Option (Ended Heap)
run_on zero run T = gone_on (run []) T (λ o. None)
run_on (suc n) run T = gone_on (run []) T (λ o. run_on n (λ more. run (answer_to o T ∷ more)) (after o T))

pub record Entry : Type 0 where
  pub session : ℕ
  pub call : ℕ

abbrev pub prints_of : Reply → List (List ℕ) → List (List ℕ)
prints_of reply prints = if is_throw reply then [] else prints

pub record Serial (Heap : Type 0) : Type 0 where
  pub told : List Shown
  pub heaps : ℕ → Heap
  pub tables : Tables

abbrev pub with_heap : {Heap : Type 0} → (ℕ → Heap) → ℕ → Heap → ℕ → Heap
with_heap heaps s heap = λ t. if s == t then heap else heaps t

-- a throw changes nothing but what is told
abbrev pub settled : {Heap : Type 0} → ℕ → Serial Heap → Option (Ended Heap) → Serial Heap
settled s now None = now
settled s now (Some e) = record {
  told = record { reply = e.reply; prints = prints_of e.reply e.prints } ∷ now.told;
  heaps = if is_throw e.reply then now.heaps else with_heap now.heaps s e.heap;
  tables = if is_throw e.reply then now.tables else e.tables;
}

-- the run of a journal, whose latest entry stands first
unfoldable pub serial : {Heap : Type 0} → Meaning Heap → Tables → List Entry → Serial Heap
serial M T0 [] = record { told = []; heaps = λ s. M.first; tables = T0 }
serial M T0 (j ∷ js) = settled j.session (serial M T0 js) (run_on max_ops (M.exec j.session j.call ((serial M T0 js).heaps j.session)) (serial M T0 js).tables)

-- ---- a history

abbrev pub call_or_none : Option ℕ → ℕ
call_or_none None = 0
call_or_none (Some c) = c

abbrev pub reached : {Heap : Type 0} → Outcome Heap → Heap → Heap
reached (Asks o) heap = heap
reached (Ends reply prints new) heap = new

-- the heap of the session's last End that committed
unfoldable pub heap_of : {Heap : Type 0} → Meaning Heap → Tables → ℕ → List Event → Heap
heap_of M T0 s [] = M.first
heap_of M T0 s (e ∷ h) =
    if is_of s e && commits e then reached (M.exec s (call_or_none (call_of s h)) (heap_of M T0 s h) (answers_of T0 s h)) (heap_of M T0 s h) else heap_of M T0 s h

-- the session's present attempt, by the answers that it is given
abbrev pub attempt_of : {Heap : Type 0} → Meaning Heap → Tables → ℕ → List Event → List Answer → Outcome Heap
attempt_of M T0 s h = M.exec s (call_or_none (call_of s h)) (heap_of M T0 s h)

-- how far the session's present attempt has come
abbrev pub outcome_of : {Heap : Type 0} → Meaning Heap → Tables → ℕ → List Event → Outcome Heap
outcome_of M T0 s h = attempt_of M T0 s h (answers_of T0 s h)

-- it ended with this reply and these prints
pub record EndedWith {Heap : Type 0} (o : Outcome Heap) (done : Done) : Type 0 where
  pub prints : List (List ℕ)
  pub heap : Heap
  pub ended : o ≡ Ends done.reply prints heap
  pub shown : done.prints ≡ prints_of done.reply prints

-- an event is what its session's attempt comes to
abbrev pub IsOwnAt : {Heap : Type 0} → Meaning Heap → Tables → List Event → Event → Type 0
IsOwnAt M T0 h (Begin s c a) = Unit {0}
IsOwnAt M T0 h (Op s o) = outcome_of M T0 s h ≡ Asks o
IsOwnAt M T0 h (Die s o x) = outcome_of M T0 s h ≡ Asks o
IsOwnAt M T0 h (End s done) = EndedWith (outcome_of M T0 s h) done
IsOwnAt M T0 h (Drop s) = Unit {0}

abbrev pub IsOwn : {Heap : Type 0} → Meaning Heap → Tables → List Event → Type 0
IsOwn M T0 [] = Unit {0}
IsOwn M T0 (e ∷ h) = IsOwnAt M T0 h e × IsOwn M T0 h

-- the Ends of a history, the latest first
abbrev pub entry_of : Event → List Event → List Entry → List Entry
entry_of (Begin s c a) h js = js
entry_of (Op s o) h js = js
entry_of (Die s o x) h js = js
entry_of (End s done) h js = record { session = s; call = call_or_none (call_of s h) } ∷ js
entry_of (Drop s) h js = js

unfoldable pub journal : List Event → List Entry
journal [] = []
journal (e ∷ h) = entry_of e h (journal h)

abbrev pub told_in : Event → List Shown → List Shown
told_in (Begin s c a) told = told
told_in (Op s o) told = told
told_in (Die s o x) told = told
told_in (End s done) told = record { reply = done.reply; prints = done.prints } ∷ told
told_in (Drop s) told = told

-- what the Ends of a history told, the latest first
unfoldable pub told_of : List Event → List Shown
told_of [] = []
told_of (e ∷ h) = told_in e (told_of h)

-- the history is the serial run of its Ends in their order
pub record IsSerial {Heap : Type 0} (M : Meaning Heap) (T0 : Tables) (h : List Event) : Type 0 where
  pub told : (serial M T0 (journal h)).told ≡ told_of h
  pub heaps : (s : ℕ) → (serial M T0 (journal h)).heaps s ≡ heap_of M T0 s h
  pub tables : (serial M T0 (journal h)).tables ≡ tables_of T0 h

pub record IsFaithful {Heap : Type 0} (M : Meaning Heap) (job : Calls) (form : LockForm) (T0 : Tables) (h : List Event) : Type 0 where
  pub legal : IsLegal job form h
  pub own : IsOwn M T0 h
  pub serially : IsSerial M T0 h

-- ---- the same in order

abbrev pub one_call : {Heap : Type 0} → Meaning Heap → Serial Heap → Entry → Serial Heap
one_call M now j = settled j.session now (run_on max_ops (M.exec j.session j.call (now.heaps j.session)) now.tables)

abbrev pub as_new : {Heap : Type 0} → Meaning Heap → Tables → Serial Heap
as_new M T0 = record { told = []; heaps = λ s. M.first; tables = T0 }

-- the calls of a journal, the first one first
unfoldable pub run_all : {Heap : Type 0} → Meaning Heap → Serial Heap → List Entry → Serial Heap
run_all M now [] = now
run_all M now (j ∷ js) = run_all M (one_call M now j) js
