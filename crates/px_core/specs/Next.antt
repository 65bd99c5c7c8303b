-- The next event of a session, and why there may be none. The latest event of a history stands first.
use Rattle.std.specs.Prelude.{◌≡◌, ℕ, true, false, List}
use Rattle.px_value.specs.declared.statement.TableOp.{TableOp}
use Rattle.px_rows.specs.Tables.{Tables}
use Rattle.px_code.specs.declared.reply.Done.{Done}
use Rattle.px_history.specs.declared.event.Event.{Event}
use Rattle.px_history.specs.declared.event.Event.TheVariants.{Begin, Op, Die, End}
use Rattle.px_history.specs.Attempts.{is_active}
use Rattle.px_history.specs.Legal.{Calls, MayBegin, MayDo, MustDie, MayEnd}
use Rattle.px_history.specs.Locking.{core_locks}
use Rattle.px_history.specs.Serial.{Asks, Meaning, outcome_of, EndedWith}
use Rattle.px_history.specs.Moves.{IsDue}
use Rattle.px_engine.specs.Told.{WaitsFor, IsHeldUp}

-- what an End tells beside the reply and the lines
pub record Counts : Type 0 where
  pub part : ℕ
  pub avg : ℕ
  pub moves : ℕ
  pub bytes : ℕ
  pub rehome : ℕ

abbrev pub counts_of : Done → Counts
counts_of d = record { part = d.part; avg = d.avg; moves = d.moves; bytes = d.bytes; rehome = d.rehome }

-- the event that the session makes next, where an End of it tells these counts
pub data IsNext {Heap : Type 0} (M : Meaning Heap) (job : Calls) (T0 : Tables) (counts : Counts) (h : List Event) (s : ℕ) : Event → Type 0 where
  begins : (c a : ℕ) → MayBegin job h s c a → IsNext M job T0 counts h s (Begin s c a)
  does : (o : TableOp) → outcome_of M T0 s h ≡ Asks o → MayDo core_locks h s o → IsNext M job T0 counts h s (Op s o)
  dies : (o : TableOp) (x : ℕ) → outcome_of M T0 s h ≡ Asks o → MustDie core_locks h s o x → IsNext M job T0 counts h s (Die s o x)
  ends : (done : Done) → MayEnd job h s done → EndedWith (outcome_of M T0 s h) done → counts_of done ≡ counts → IsNext M job T0 counts h s (End s done)

-- the session isn't over, and makes no event until session x has made one
pub data IsHeld {Heap : Type 0} (M : Meaning Heap) (job : Calls) (T0 : Tables) (h : List Event) (s x : ℕ) : Type 0 where
  by_lock : (o : TableOp) → is_active s h ≡ true → outcome_of M T0 s h ≡ Asks o → WaitsFor h s o x → IsHeld M job T0 h s x
  by_killer : (c : ℕ) → is_active s h ≡ false → IsDue job h s c → IsHeldUp job h s c x → IsHeld M job T0 h s x

-- ---- there is one at most

-- one next event at most, and none where the session is held
pub record IsSingle {Heap : Type 0} (M : Meaning Heap) (job : Calls) (T0 : Tables) (counts : Counts) (h : List Event) (s : ℕ) : Type 0 where
  pub one : (e e' : Event) → IsNext M job T0 counts h s e → IsNext M job T0 counts h s e' → e ≡ e'
  pub none : (x : ℕ) (e : Event) → IsHeld M job T0 h s x → IsNext M job T0 counts h s e → ⊥
