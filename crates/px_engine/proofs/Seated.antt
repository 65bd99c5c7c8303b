-- Each event keeps the seats.
use Rattle.std.proofs.Common.{◌≡◌, ◌≢◌, ℕ, ◌+◌, ◌<◌, All, List, [], ◌∷◌, ◌++◌, reverse, length, Some, None, false, slice_index_or, slice_set, refl, sym, ap, ◌∙◌, subst, arith}
use Rattle.std.proofs.lemmas.List.{reverse-append, get_or_default}
use Rattle.px_value.specs.declared.statement.TableOp.{TableOp}
use Rattle.px_history.specs.declared.event.Event.{Event}
use Rattle.px_history.specs.declared.event.Event.TheVariants.{Begin, Op, Die}
use Rattle.px_history.specs.Attempts.{session_of, is_first, stamps, deaths}
use Rattle.px_history.specs.Legal.{Calls, MayBegin, MustDie, MayFollow, IsLegal}
use Rattle.px_history.specs.Locking.{core_locks}
use Rattle.px_history.specs.Moves.{IsDue}
use Rattle.px_engine.specs.declared.seat.Seat.{Seat}
use Rattle.px_engine.specs.Seats.{AreSeats, new_seat, seat_at, seat_after, begun_seat, died_seat, deaths_in, held_by}
use Rattle.px_engine.specs.Sound.{IsSeated}
use Rattle.px_engine.specs.Told.{IsNextCall, IsHeldUp}
use Rattle.px_engine.proofs.Seats.{holder_call, seats_next, seats_op, seats_new, stamps_same, stamps_again, stamps_first, deaths_are, few_due, begin_may, begin_held}

-- the seat that was read at an index
pub seat_here : (seats : List Seat) (i s : ℕ) (old : Seat) → i ≡ s → s < length seats → old ≡ slice_index_or seats i old → old ≡ seat_at seats s
seat_here seats i s old q l e = e ∙ ap (λ (n : ℕ). slice_index_or seats n old) q ∙ get_or_default seats s old new_seat l

-- an event that sets the seat of its session
pub seated_next : (job : Calls) (e : Event) (h : List Event) (seats : List Seat) (n retries : ℕ) → IsLegal job core_locks h → MayFollow job core_locks h e → is_first e h ≡ false → session_of e < length seats → IsSeated job seats n retries h
    → (i : ℕ) (t : Seat) → i ≡ session_of e → t ≡ seat_after e h (seat_at seats (session_of e)) → IsSeated job (slice_set seats i t) n retries (e ∷ h)
seated_next job e h seats n retries l m f k z i t q is = record {
  seats_are = subst (λ (j : ℕ). AreSeats job (e ∷ h) (slice_set seats j t)) (sym q) (seats_next job e h seats l m z.seats_are k t is);
  count = z.count ∙ sym (stamps_same e h f);
  tries = z.tries;
  bound = z.bound;
}

pub seated_op : (job : Calls) (s : ℕ) (o : TableOp) (h : List Event) (seats : List Seat) (n retries : ℕ) → IsSeated job seats n retries h → IsSeated job seats n retries (Op s o ∷ h)
seated_op job s o h seats n retries z = record {
  seats_are = seats_op job s o h seats z.seats_are;
  count = z.count ∙ sym (stamps_same (Op s o) h refl);
  tries = z.tries;
  bound = z.bound;
}

pub seated_die : (job : Calls) (s x : ℕ) (o : TableOp) (h : List Event) (seats : List Seat) (n retries : ℕ) → IsLegal job core_locks h → MustDie core_locks h s o x → s < length seats → IsSeated job seats n retries h
    → (i : ℕ) (old held t : Seat) → i ≡ s → old ≡ seat_at seats s → held ≡ seat_at seats x → (old.deaths < 255 → t ≡ died_seat x held.call old) → IsSeated job (slice_set seats i t) n retries (Die s o x ∷ h)
seated_die job s x o h seats n retries l m k z i old held t q here there is =
    let seat = z.seats_are s in
    let few = seat.few (sym seat.active ∙ m.active) in
    let low : old.deaths < 255 = let b = z.bound in let w : old.deaths ≡ (seat_at seats s).deaths = ap (λ (u : Seat). u.deaths) here in omega arith in
    let call = (holder_call job h s x o (seat_at seats x) l (z.seats_are x) m.holds).0 in
    seated_next job (Die s o x) h seats n retries l m refl k z i t q (is low ∙ (λ j. died_seat x ((ap (λ (u : Seat). u.call) there ∙ sym call) j) (here j)))

pub seated_begin : (job : Calls) (s c a : ℕ) (h : List Event) (seats : List Seat) (n retries : ℕ) → IsLegal job core_locks h → MayBegin job h s c a → s < length seats → IsSeated job seats n retries h
    → (i n' : ℕ) (t : Seat) → i ≡ s → t ≡ begun_seat c (n + 1) (seat_at seats s) → n' ≡ stamps (Begin s c a ∷ h) → IsSeated job (slice_set seats i t) n' retries (Begin s c a ∷ h)
seated_begin job s c a h seats n retries l m k z i n' t q is count = record {
  seats_are = subst (λ (j : ℕ). AreSeats job (Begin s c a ∷ h) (slice_set seats j t)) (sym q) (seats_next job (Begin s c a) h seats l m z.seats_are k t (is ∙ ap (λ (j : ℕ). begun_seat c (j + 1) (seat_at seats s)) z.count));
  count = count;
  tries = z.tries;
  bound = z.bound;
}

pub again_count : (job : Calls) (s c a : ℕ) (h : List Event) (seats : List Seat) (n retries : ℕ) → IsSeated job seats n retries h → MayBegin job h s c a → (seat_at seats s).call ≡ c → n ≡ stamps (Begin s c a ∷ h)
again_count job s c a h seats n retries z m q = z.count ∙ sym (stamps_again job h s c a (seat_at seats s) (z.seats_are s) m q)

pub first_count : (job : Calls) (s c a : ℕ) (h : List Event) (seats : List Seat) (n retries : ℕ) → IsSeated job seats n retries h → MayBegin job h s c a → (seat_at seats s).call ≢ c → n + 1 ≡ stamps (Begin s c a ∷ h)
first_count job s c a h seats n retries z m q = ap (λ (j : ℕ). j + 1) z.count ∙ sym (stamps_first job h s c a (seat_at seats s) (z.seats_are s) m q)

no_stamps : stamps [] ≡ 0
unfolding stamps
no_stamps = refl

pub seated_none : (job : Calls) (seats : List Seat) (retries : ℕ) → All (λ (t : Seat). t ≡ new_seat) seats → retries < 255 → job.retries ≡ retries → IsSeated job seats 0 retries []
seated_none job seats retries a l q = record { seats_are = seats_new job seats a; count = sym no_stamps; tries = sym q; bound = subst (λ (n : ℕ). n < 255) (sym q) l }

-- the history that the code made
pub seated_push : (job : Calls) (seats : List Seat) (n retries : ℕ) (events events' : List Event) (e : Event) → events' ≡ events ++ e ∷ [] → IsSeated job seats n retries (e ∷ reverse events) → IsSeated job seats n retries (reverse events')
seated_push job seats n retries events events' e w z = subst (IsSeated job seats n retries) (sym (ap reverse w ∙ reverse-append events (e ∷ []))) z

-- the next attempt of the call that is due
pub attempt_is : (job : Calls) (h : List Event) (s c : ℕ) (seats : List Seat) (n retries : ℕ) → IsSeated job seats n retries h → IsDue job h s c → (seat : Seat) (a : ℕ) → seat ≡ seat_at seats s → (deaths_in seat c < 255 → a ≡ deaths_in seat c + 1) → a ≡ deaths s c h + 1
attempt_is job h s c seats n retries z u seat a q next =
    let same : deaths_in seat c ≡ deaths s c h = ap (λ (t : Seat). deaths_in t c) q ∙ deaths_are job h s c seats z.seats_are u in
    let few = few_due job h s c seats z.seats_are u in
    next (let b = z.bound in omega (arith, same, few)) ∙ ap (λ (k : ℕ). k + 1) same

pub free_now : (job : Calls) (h : List Event) (s c : ℕ) (seats : List Seat) (n retries : ℕ) → IsSeated job seats n retries h → IsNextCall job h s c → (seat : Seat) → seat ≡ seat_at seats s → held_by seats retries seat c ≡ None → MayBegin job h s c (deaths s c h + 1)
free_now job h s c seats n retries z u seat q w = begin_may job h s c seats z.seats_are u.due u.idle (sym ((λ i. held_by seats (z.tries i) (q i) c)) ∙ w)

pub held_now : (job : Calls) (h : List Event) (s c : ℕ) (seats : List Seat) (n retries : ℕ) → IsSeated job seats n retries h → IsDue job h s c → (seat : Seat) (x : ℕ) → seat ≡ seat_at seats s → held_by seats retries seat c ≡ Some x → IsHeldUp job h s c x
held_now job h s c seats n retries z u seat x q w = begin_held job h s c seats z.seats_are u x (sym ((λ i. held_by seats (z.tries i) (q i) c)) ∙ w)
