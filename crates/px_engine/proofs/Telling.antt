-- What the book tells a session, in the words of the history.
use Rattle.std.proofs.Common.{◌≡◌, ℕ, true, List, [], ◌∷◌, ap, ◌∙◌, subst}
use Rattle.px_value.specs.declared.statement.TableOp.{TableOp}
use Rattle.px_locks.specs.declared.want.Grant.{Grant}
use Rattle.px_locks.specs.declared.want.Want.{Want}
use Rattle.px_locks.specs.declared.book.Asked.{Asked}
use Rattle.px_locks.specs.declared.book.Asked.TheVariants.{Granted, Waits, Dies}
use Rattle.px_locks.specs.Locks.{IsTold}
use Rattle.px_history.specs.declared.event.Event.{Event}
use Rattle.px_history.specs.Attempts.{is_active, stamp_of}
use Rattle.px_history.specs.Booked.{IsBooked}
use Rattle.px_history.specs.Legal.{Calls, MayDo, MustDie}
use Rattle.px_history.specs.Locking.{core_locks}
use Rattle.px_history.proofs.Book.{granted_free, dies_must, waits_named}
use Rattle.px_history.proofs.Progress.{waits_younger}
use Rattle.px_engine.specs.declared.seat.Seat.{Seat}
use Rattle.px_engine.specs.Seats.{seat_at}
use Rattle.px_engine.specs.Sound.{IsSeated}
use Rattle.px_engine.specs.Told.{WaitsFor}
use Rattle.px_engine.proofs.Seats.{stamp_is}
use Rattle.px_engine.proofs.Steps.{told_at}

pub stamp_here : (job : Calls) (h : List Event) (s : ℕ) (seats : List Seat) (n retries : ℕ) → IsSeated job seats n retries h → is_active s h ≡ true → (seat : Seat) → seat ≡ seat_at seats s → seat.stamp ≡ stamp_of s h
stamp_here job h s seats n retries z a seat q = ap (λ (t : Seat). t.stamp) q ∙ stamp_is job h s (seat_at seats s) (z.seats_are s) a

module _ (job : Calls) (h : List Event) (s : ℕ) (o : TableOp) (seats : List Seat) (n retries : ℕ) (z : IsSeated job seats n retries h) (active : is_active s h ≡ true) (seat : Seat) (q : seat ≡ seat_at seats s)
    (grants : List Grant) (b : IsBooked core_locks grants h) (want : Want) (vs : List Want) (v : vs ≡ want ∷ []) (w : want ∷ [] ≡ core_locks.wants o) (r : Asked) (told : IsTold grants s seat.stamp vs r) where
  by_stamp : (a : Asked) → r ≡ a → IsTold grants s (stamp_of s h) (core_locks.wants o) a
  by_stamp a e = subst (λ (k : ℕ). IsTold grants s k (core_locks.wants o) a) (stamp_here job h s seats n retries z active seat q) (told_at grants s seat.stamp want vs (core_locks.wants o) v w r a told e)

  pub waits_for : (x : ℕ) → r ≡ Waits x → WaitsFor h s o x
  waits_for x e =
      let t = by_stamp (Waits x) e in
      let named = (waits_named core_locks grants h b s o x t).0 in
      record { holds = named.holds; least = named.least; younger = (waits_younger core_locks grants h b s o x active t).1 }

  pub must_die : (x : ℕ) → r ≡ Dies x → MustDie core_locks h s o x
  must_die x e = dies_must core_locks grants h b s o x active (by_stamp (Dies x) e)

  pub may_do : r ≡ Granted → MayDo core_locks h s o
  may_do e = record { active = active; free = granted_free core_locks grants h b s o (by_stamp Granted e) }
