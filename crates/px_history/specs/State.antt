-- The tables of a history, the answers to its operations, and what it means that tables are kept in place.
use Rattle.std.specs.Prelude.{◌≡◌, ◌≢◌, ℕ, Bool, true, false, not, List, [], ◌∷◌, ◌++◌, Option, length, if◌then◌else◌}
use Rattle.px_value.specs.declared.statement.TableOp.{TableOp}
use Rattle.px_value.specs.declared.answer.Answer.{Answer}
use Rattle.px_rows.specs.Tables.{Old}
use Rattle.px_rows.specs.Tables.{Place}
use Rattle.px_rows.specs.Tables.{Row, Tables, row_at}
use Rattle.px_history.specs.Places.{restored}
use Rattle.px_rows.specs.Means.{fed, answer_to}
use Rattle.px_history.specs.Places.{written}
use Rattle.px_history.specs.declared.event.Event.{Event}
use Rattle.px_history.specs.declared.event.Event.TheVariants.{Begin, Op, Die, End, Drop}
use Rattle.px_code.specs.declared.reply.Reply.{Reply}
use Rattle.px_code.specs.declared.reply.Reply.TheVariants.{Threw}
use Rattle.px_history.specs.Attempts.{session_of, is_of, ops_of}

abbrev pub is_throw : Reply → Bool
is_throw (Threw t) = true
is_throw _ = false

-- an End whose reply isn't a throw
abbrev pub commits : Event → Bool
commits (End session done) = not (is_throw done.reply)
commits (Begin session call attempt) = false
commits (Op session op) = false
commits (Die session op holder) = false
commits (Drop session) = false

-- the operations of the attempts that committed, in order of their Ends
unfoldable pub tables_of : Tables → List Event → Tables
tables_of T0 [] = T0
tables_of T0 (e ∷ h) = if commits e then fed (ops_of (session_of e) h) (tables_of T0 h) else tables_of T0 h

-- the tables that the session sees: those of the history, and its attempt's own operations
abbrev pub seen_tables : Tables → ℕ → List Event → Tables
seen_tables T0 s h = fed (ops_of s h) (tables_of T0 h)

-- the answer to an operation that the session asks next
abbrev pub answer_of : Tables → ℕ → TableOp → List Event → Answer
answer_of T0 s o h = answer_to o (seen_tables T0 s h)

abbrev pub answers_after : Tables → Event → List Event → List Answer → List Answer
answers_after T0 (Begin session call attempt) h told = []
answers_after T0 (Op session op) h told = told ++ answer_of T0 session op h ∷ []
answers_after T0 (Die session op holder) h told = []
answers_after T0 (End session done) h told = []
answers_after T0 (Drop session) h told = []

-- the answers that the session's attempt was given
unfoldable pub answers_of : Tables → ℕ → List Event → List Answer
answers_of T0 s [] = []
answers_of T0 s (e ∷ h) = if is_of s e then answers_after T0 e h (answers_of T0 s h) else answers_of T0 s h

-- ---- tables in place

-- where no other session has written, the tables in place are those that the session sees
pub record InPlace (T0 T : Tables) (h : List Event) : Type 0 where
  pub many : length T ≡ length T0
  pub sees : (s : ℕ) (c : Place) → ((x : ℕ) → x ≢ s → written (ops_of x h) c ≡ false) → row_at T c ≡ row_at (seen_tables T0 s h) c

-- the old rows put back what the history has where the session's attempt has written, and nothing elsewhere
pub record Undoes (T0 T : Tables) (undo : List Old) (s : ℕ) (h : List Event) : Type 0 where
  pub back : (c : Place) → written (ops_of s h) c ≡ true → restored undo c (row_at T c) ≡ row_at (tables_of T0 h) c
  pub alone : (c : Place) (r : Option Row) → written (ops_of s h) c ≡ false → restored undo c r ≡ r
