-- Which events a session can make next.
use Rattle.std.specs.Prelude.{◌≡◌, ℕ, ◌+◌, ◌<◌, ◌≤◌, Bool, true, false, ◌&&◌, List, [], ◌∷◌, if◌then◌else◌}
use Rattle.px_value.specs.declared.statement.TableOp.{TableOp}
use Rattle.px_rows.specs.Tables.{Tables}
use Rattle.px_history.specs.declared.event.Event.{Event}
use Rattle.px_history.specs.declared.event.Event.TheVariants.{Begin}
use Rattle.px_code.specs.declared.reply.Reply.{Reply}
use Rattle.px_history.specs.Attempts.{is_of, is_active, is_over}
use Rattle.px_history.specs.Legal.{Calls, MayBegin, MayDo, MustDie}
use Rattle.px_history.specs.Locking.{LockForm}
use Rattle.px_history.specs.Serial.{Asks, Ends, Meaning, outcome_of}

-- the session's next call
pub record IsDue (job : Calls) (h : List Event) (s c : ℕ) : Type 0 where
  pub listed : (1 ≤ c) × (c ≤ job.calls s)
  pub earlier : (d : ℕ) → 1 ≤ d → d < c → is_over job.retries s d h ≡ true
  pub open_yet : is_over job.retries s c h ≡ false

-- the session can begin, do, die or end
pub data CanMove {Heap : Type 0} (M : Meaning Heap) (job : Calls) (form : LockForm) (T0 : Tables) (h : List Event) (s : ℕ) : Type 0 where
  begins_call : (c a : ℕ) → MayBegin job h s c a → CanMove M job form T0 h s
  does : (o : TableOp) → outcome_of M T0 s h ≡ Asks o → MayDo form h s o → CanMove M job form T0 h s
  dies : (o : TableOp) (x : ℕ) → outcome_of M T0 s h ≡ Asks o → MustDie form h s o x → CanMove M job form T0 h s
  ends : (reply : Reply) (prints : List (List ℕ)) (heap : Heap) → outcome_of M T0 s h ≡ Ends reply prints heap → is_active s h ≡ true → CanMove M job form T0 h s

-- how many events the session has made, and how many attempts it has begun
unfoldable pub made : ℕ → List Event → ℕ
made s [] = 0
made s (e ∷ h) = if is_of s e then made s h + 1 else made s h

abbrev pub is_begin : Event → Bool
is_begin (Begin s c a) = true
is_begin _ = false

unfoldable pub tries : ℕ → List Event → ℕ
tries s [] = 0
tries s (e ∷ h) = if is_of s e && is_begin e then tries s h + 1 else tries s h
