-- Seats tell what the history says.
use Rattle.std.proofs.Common.{◌≡◌, ◌≢◌, ℕ, ◌+◌, ◌<◌, ◌≤◌, nat_le, nat_lt, Bool, true, false, not, All, ◌⊎◌, ◌==◌, ◌&&◌, ◌||◌, if◌then◌else◌, List, [], ◌∷◌, Option, Some, None, is_some, refl, sym, ap, ◌∙◌, subst, arith, inl, inr, length, slice_set, get_or-set_same, get_or-set_other, zero, suc}
use Rattle.std.proofs.lemmas.Bool.{both_ways, cases_eq, cases_Bool, cases_lt, cond-true, cond-false, eq-eqb, ne_eqb, and_left, and_right, and_from, or_left, or_right, or_from, or_parts, le-leb, leb-true, ltb-true, ltb-false, false_from_ne_true}
use Rattle.px_value.specs.declared.statement.TableOp.{TableOp}
use Rattle.px_code.specs.declared.reply.Done.{Done}
use Rattle.px_history.specs.declared.event.Event.{Event}
use Rattle.px_history.specs.declared.event.Event.TheVariants.{Begin, Op, Die, End, Drop}
use Rattle.px_history.specs.Attempts.{session_of, is_of, is_death, is_end, is_call, call_of, is_active, begins, begun, is_first, stamps, stamp_of_call, stamp_in, stamp_of, deaths, has_ended, is_over, Killer, killer_in, killer_of}
use Rattle.px_history.specs.Locking.{LockForm, core_locks, is_in_conflict, clashes, wants_of}
use Rattle.px_history.specs.Legal.{Calls, MayBegin, MayFollow, IsLegal, IsOverFor}
use Rattle.px_history.specs.Serial.{call_or_none}
use Rattle.px_history.specs.Moves.{IsDue}
use Rattle.px_history.proofs.Apart.{call_own, call_other, idle_ops}
use Rattle.px_engine.specs.declared.seat.KilledBy.{KilledBy}
use Rattle.px_engine.specs.declared.seat.Seat.{Seat}
use Rattle.px_engine.specs.Seats.{is_held, held_at, held_by, has_passed, deaths_in, AreSeats, new_seat, seat_at, begun_seat, died_seat, ended_seat, dropped_seat, seat_after, as_killer, IsSeat}
use Rattle.px_engine.specs.Told.{IsHeldUp}

none_some : (k : KilledBy) → ◌≡◌ {A = Option KilledBy} None (Some k) → ⊥
none_some k q = cc

some_same : (x y : KilledBy) → ◌≡◌ {A = Option KilledBy} (Some x) (Some y) → x ≡ y
some_same x y q = cc

-- a call that isn't over has died as often as it may at most
few_deaths : (retries s c : ℕ) (h : List Event) → is_over retries s c h ≡ false → deaths s c h ≤ retries
few_deaths retries s c h q = elim (cases_lt retries (deaths s c h)) [ inl l ↦ absurd (both_ways _ (or_parts _ _ q).1 (le-leb (retries + 1) (deaths s c h) (omega (arith, l)))) | inr m ↦ omega (arith, m) ]

-- ---- what an event leaves as it was

-- of a call: deaths, ended and killer
record Stays (s c : ℕ) (e : Event) (h : List Event) : Type 0 where
  deaths_same : deaths s c (e ∷ h) ≡ deaths s c h
  ended_same : has_ended s c (e ∷ h) ≡ has_ended s c h
  killer_same : killer_of s c (e ∷ h) ≡ killer_of s c h

-- another session's event, or an event while the session isn't in this call
stays_else : (s c : ℕ) (e : Event) (h : List Event) → is_of s e && is_call c (call_of s h) ≡ false → Stays s c e h
unfolding deaths has_ended killer_of
stays_else s c e h n = record {
  deaths_same = cond-false _ _ _ (three (is_of s e) (is_death e) (is_call c (call_of s h)) n);
  ended_same = ap (λ (b : Bool). b || has_ended s c h) (three (is_of s e) (is_end e) (is_call c (call_of s h)) n);
  killer_same = cond-false _ _ _ n;
}
  where
    three : (a b d : Bool) → a && d ≡ false → (a && b) && d ≡ false
    three true true d q = q
    three true false d q = refl
    three false b d q = refl

-- an event that is no death and no end
stays_plain : (s c : ℕ) (e : Event) (h : List Event) → is_death e ≡ false → is_end e ≡ false → ((before : Option Killer) → killer_in e h before ≡ before) → Stays s c e h
unfolding deaths has_ended killer_of
stays_plain s c e h d n k = record {
  deaths_same = cond-false _ _ _ (and_left _ _ (and_right (is_of s e) _ d));
  ended_same = ap (λ (b : Bool). b || has_ended s c h) (and_left _ _ (and_right (is_of s e) _ n));
  killer_same = by (is_of s e && is_call c (call_of s h));
}
  where
    by : (b : Bool) → (if b then killer_in e h (killer_of s c h) else killer_of s c h) ≡ killer_of s c h
    by true = k (killer_of s c h)
    by false = refl

begun_old : (s c : ℕ) (e : Event) (h : List Event) → begun s c h ≡ true → (begun s c (e ∷ h) ≡ true) × (stamp_of_call s c (e ∷ h) ≡ stamp_of_call s c h)
unfolding begun stamp_of_call
begun_old s c e h b = (or_right _ _ b, cond-true _ _ _ b)

begun_not : (s c : ℕ) (e : Event) (h : List Event) → begins s c e ≡ false → begun s c (e ∷ h) ≡ begun s c h
unfolding begun
begun_not s c e h n = ap (λ (b : Bool). b || begun s c h) n

begun_first : (s c a : ℕ) (h : List Event) → begun s c h ≡ false → (begun s c (Begin s c a ∷ h) ≡ true) × (stamp_of_call s c (Begin s c a ∷ h) ≡ stamps h + 1)
unfolding begun stamp_of_call
begun_first s c a h b = let k : begins s c (Begin s c a) ≡ true = and_from _ _ (eq-eqb s s refl) (eq-eqb c c refl) in (or_left _ _ k, cond-false _ _ _ b ∙ cond-true _ _ _ k)

begins_other : (s c : ℕ) (e : Event) → session_of e ≢ s → begins s c e ≡ false
begins_other s c (Begin t d a) n = and_left _ _ (ne_eqb t s n)
begins_other s c (Op t o) n = refl
begins_other s c (Die t o x) n = refl
begins_other s c (End t d) n = refl
begins_other s c (Drop t) n = refl

over_kept : (retries s c : ℕ) (e : Event) (h : List Event) → Stays s c e h → is_over retries s c h ≡ true → is_over retries s c (e ∷ h) ≡ true
over_kept retries s c e h k q = (λ i. k.ended_same i || nat_le (retries + 1) (k.deaths_same i)) ∙ q

-- ---- each event

module _ (job : Calls) (s : ℕ) (h : List Event) (t : Seat) (i : IsSeat job h s t) where
  -- all calls stay as they were, and so does the session
  seat_still : (e : Event) → call_of s (e ∷ h) ≡ call_of s h → ((c : ℕ) → begins s c e ≡ false) → ((c : ℕ) → Stays s c e h) → IsSeat job (e ∷ h) s t
  seat_still e same nb k = record {
    active = ap is_some same ∙ i.active;
    call = λ a. same ∙ i.call a;
    some = i.some;
    few = i.few;
    stamp = λ l. let b = i.stamp l in let o = begun_old s t.call e h b.0 in (o.0, o.1 ∙ b.1);
    died = (k t.call).deaths_same ∙ i.died;
    ended = (k t.call).ended_same ∙ i.ended;
    killer = (k t.call).killer_same ∙ i.killer;
    killed = i.killed;
    earlier = λ c p l. over_kept job.retries s c e h (k c) (i.earlier c p l);
    beyond = λ c l. let b = i.beyond c l in (begun_not s c e h (nb c) ∙ b.0, (k c).deaths_same ∙ b.1, (k c).ended_same ∙ b.2, (k c).killer_same ∙ b.3);
  }

  -- the call that was open is left: other calls stay as they were
  seat_left : (e : Event) (u : Seat) → u.call ≡ t.call → u.active ≡ false → u.stamp ≡ t.stamp → call_of s (e ∷ h) ≡ None → ((c : ℕ) → begins s c e ≡ false) → ((c : ℕ) → c ≢ t.call → Stays s c e h)
      → deaths s t.call (e ∷ h) ≡ u.deaths → has_ended s t.call (e ∷ h) ≡ u.ended → killer_of s t.call (e ∷ h) ≡ as_killer u.killer → ((y : KilledBy) → u.killer ≡ Some y → 1 ≤ y.call) → IsSeat job (e ∷ h) s u
  seat_left e u uc ua us none nb k d n w o = record {
    active = ap is_some none ∙ sym ua;
    call = λ a. absurd (both_ways _ ua a);
    some = λ a. absurd (both_ways _ ua a);
    few = λ a. absurd (both_ways _ ua a);
    stamp = λ l. let b = i.stamp (subst (λ (c : ℕ). 1 ≤ c) uc l) in let z = begun_old s t.call e h b.0 in (ap (λ (c : ℕ). begun s c (e ∷ h)) uc ∙ z.0, ap (λ (c : ℕ). stamp_of_call s c (e ∷ h)) uc ∙ (z.1 ∙ (b.1 ∙ sym us)));
    died = ap (λ (c : ℕ). deaths s c (e ∷ h)) uc ∙ d;
    ended = ap (λ (c : ℕ). has_ended s c (e ∷ h)) uc ∙ n;
    killer = ap (λ (c : ℕ). killer_of s c (e ∷ h)) uc ∙ w;
    killed = o;
    earlier = λ c p l. over_kept job.retries s c e h (k c (λ q. omega (arith, q, uc))) (i.earlier c p (omega (arith, uc)));
    beyond = λ c l. let b = i.beyond c (omega (arith, uc)) in let y = k c (λ q. omega (arith, q, uc)) in (begun_not s c e h (nb c) ∙ b.0, y.deaths_same ∙ b.1, y.ended_same ∙ b.2, y.killer_same ∙ b.3);
  }

  seat_begun : (c a : ℕ) → MayBegin job h s c a → IsSeat job (Begin s c a ∷ h) s (begun_seat c (stamps h + 1) t)
  seat_begun c a m = elim (cases_eq t.call c) [
    | inl q ↦ subst (λ (u : Seat). IsSeat job (Begin s c a ∷ h) s u) (sym (cond-true _ _ _ (eq-eqb t.call c q))) (again q)
    | inr n ↦ subst (λ (u : Seat). IsSeat job (Begin s c a ∷ h) s u) (sym (cond-false _ _ _ (ne_eqb t.call c n))) (anew n)
  ]
    where
      k : (d : ℕ) → Stays s d (Begin s c a) h
      k d = stays_plain s d (Begin s c a) h refl refl (λ b. refl)

      now : call_of s (Begin s c a ∷ h) ≡ Some c
      now = call_own s (Begin s c a) h refl

      nb : (d : ℕ) → c < d → begins s d (Begin s c a) ≡ false
      nb d l = and_right _ _ (ne_eqb c d (λ q. omega (arith, q)))

      again : t.call ≡ c → IsSeat job (Begin s c a ∷ h) s (record t { active = true })
      again q = record {
        active = ap is_some now;
        call = λ _. now ∙ ap Some (sym q);
        some = λ _. let l = m.listed in let z = l.0 in omega (arith, q);
        few = λ _. subst (λ (n : ℕ). n ≤ job.retries) (ap (λ (d : ℕ). deaths s d h) (sym q) ∙ i.died) (few_deaths job.retries s c h m.open_yet);
        stamp = λ l. let b = i.stamp l in let o = begun_old s t.call (Begin s c a) h b.0 in (o.0, o.1 ∙ b.1);
        died = (k t.call).deaths_same ∙ i.died;
        ended = (k t.call).ended_same ∙ i.ended;
        killer = (k t.call).killer_same ∙ i.killer;
        killed = i.killed;
        earlier = λ d p l. over_kept job.retries s d (Begin s c a) h (k d) (i.earlier d p l);
        beyond = λ d l. let b = i.beyond d l in (begun_not s d (Begin s c a) h (nb d (omega (arith, q))) ∙ b.0, (k d).deaths_same ∙ b.1, (k d).ended_same ∙ b.2, (k d).killer_same ∙ b.3);
      }

      anew : t.call ≢ c → IsSeat job (Begin s c a ∷ h) s (record { call = c; active = true; ended = false; stamp = stamps h + 1; deaths = 0; killer = None })
      anew n =
          let before : c < t.call → ⊥ = λ l. both_ways _ m.open_yet (i.earlier c (m.listed).0 l) in
          let past : t.call < c = omega (arith, before, n) in
          let b = i.beyond c past in
          record {
            active = ap is_some now;
            call = λ _. now;
            some = λ _. (m.listed).0;
            few = λ _. omega arith;
            stamp = λ _. begun_first s c a h b.0;
            died = (k c).deaths_same ∙ b.1;
            ended = (k c).ended_same ∙ b.2;
            killer = (k c).killer_same ∙ b.3;
            killed = λ y q. absurd (none_some y q);
            earlier = λ d p l. over_kept job.retries s d (Begin s c a) h (k d) (m.earlier d p l);
            beyond = λ d l. let y = i.beyond d (omega arith) in (begun_not s d (Begin s c a) h (nb d l) ∙ y.0, (k d).deaths_same ∙ y.1, (k d).ended_same ∙ y.2, (k d).killer_same ∙ y.3);
          }

  in_call : is_active s h ≡ true → call_of s h ≡ Some t.call
  in_call a = i.call (sym i.active ∙ a)

  elsewhere : (e : Event) → is_active s h ≡ true → (c : ℕ) → c ≢ t.call → Stays s c e h
  elsewhere e a c n = stays_else s c e h (and_right (is_of s e) _ (ap (is_call c) (in_call a) ∙ ne_eqb c t.call n))

  this_call : is_active s h ≡ true → is_call t.call (call_of s h) ≡ true
  this_call a = ap (is_call t.call) (in_call a) ∙ eq-eqb t.call t.call refl

  seat_died : (o : TableOp) (x d : ℕ) → is_active s h ≡ true → call_of x h ≡ Some d → 1 ≤ d → IsSeat job (Die s o x ∷ h) s (died_seat x d t)
  unfolding deaths has_ended killer_of
  seat_died o x d a q l =
      let here = and_from _ _ (eq-eqb s s refl) (this_call a) in
      seat_left (Die s o x) (died_seat x d t) refl refl refl (call_own s (Die s o x) h refl) (λ c. refl) (elsewhere (Die s o x) a)
      (cond-true _ _ _ (and_from _ _ (and_from _ _ (eq-eqb s s refl) refl) (this_call a)) ∙ ap (λ (n : ℕ). n + 1) i.died)
      (ap (λ (b : Bool). b || has_ended s t.call h) (and_left _ (is_call t.call (call_of s h)) (and_right (s == s) false refl)) ∙ i.ended)
      (cond-true _ _ _ here ∙ ap (λ (y : Option ℕ). Some (record { session = x; call = y })) q)
      (λ y r. subst (λ (n : ℕ). 1 ≤ n) (ap (λ (u : KilledBy). u.call) (some_same _ y r)) l)

  seat_ended : (x : Done) → is_active s h ≡ true → IsSeat job (End s x ∷ h) s (ended_seat t)
  unfolding deaths has_ended killer_of
  seat_ended x a =
      let here = and_from _ _ (eq-eqb s s refl) (this_call a) in
      seat_left (End s x) (ended_seat t) refl refl refl (call_own s (End s x) h refl) (λ c. refl) (elsewhere (End s x) a)
      (cond-false _ _ _ (and_left _ _ (and_right (s == s) _ refl)) ∙ i.died)
      (or_left _ _ (and_from _ _ (and_from _ _ (eq-eqb s s refl) refl) (this_call a)))
      (cond-true _ _ _ here ∙ i.killer) i.killed

  seat_dropped : is_active s h ≡ true → IsSeat job (Drop s ∷ h) s (dropped_seat t)
  seat_dropped a =
      let k = stays_plain s t.call (Drop s) h refl refl (λ b. refl) in
      seat_left (Drop s) (dropped_seat t) refl refl refl (call_own s (Drop s) h refl) (λ c. refl) (elsewhere (Drop s) a)
      (k.deaths_same ∙ i.died) (k.ended_same ∙ i.ended) (k.killer_same ∙ i.killer) i.killed

seat_other : (job : Calls) (s : ℕ) (e : Event) (h : List Event) (t : Seat) → session_of e ≢ s → IsSeat job h s t → IsSeat job (e ∷ h) s t
seat_other job s e h t n i = seat_still job s h t i e (call_other s e h n) (λ c. begins_other s c e n) (λ c. stays_else s c e h (and_left _ _ (ne_eqb (session_of e) s n)))

some_call : (o : Option ℕ) → is_some o ≡ true → o ≡ Some (call_or_none o)
some_call None a = absurd (both_ways _ refl a)
some_call (Some c) a = refl

seat_own : (job : Calls) (form : LockForm) (e : Event) (h : List Event) (t : Seat) → MayFollow job form h e → ((x : ℕ) (o : TableOp) → e ≡ Die (session_of e) o x → (is_active x h ≡ true) × (1 ≤ call_or_none (call_of x h))) → IsSeat job h (session_of e) t → IsSeat job (e ∷ h) (session_of e) (seat_after e h t)
seat_own job form (Begin s c a) h t m k i = seat_begun job s h t i c a m
seat_own job form (Op s o) h t m k i = seat_still job s h t i (Op s o) (call_own s (Op s o) h refl) (λ c. refl) (λ c. stays_plain s c (Op s o) h refl refl (λ b. refl))
seat_own job form (Die s o x) h t m k i = seat_died job s h t i o x (call_or_none (call_of x h)) m.active (some_call (call_of x h) (k x o refl).0) (k x o refl).1
seat_own job form (End s d) h t m k i = seat_ended job s h t i d m.active
seat_own job form (Drop s) h t m k i = seat_dropped job s h t i m

seat_start : (job : Calls) (s : ℕ) → IsSeat job [] s new_seat
unfolding call_of begun stamp_of_call deaths has_ended killer_of
seat_start job s = record {
  active = refl;
  call = λ a. absurd (both_ways _ refl a);
  some = λ a. absurd (both_ways _ refl a);
  few = λ a. absurd (both_ways _ refl a);
  stamp = λ l. absurd (omega arith);
  died = refl;
  ended = refl;
  killer = refl;
  killed = λ k q. absurd (none_some k q);
  earlier = λ c p l. absurd (omega arith);
  beyond = λ c l. (refl, refl, refl, refl);
}

-- ---- all seats

conflict_active : (job : Calls) (h : List Event) → IsLegal job core_locks h → (s x : ℕ) (o : TableOp) → is_in_conflict core_locks h s o x ≡ true → is_active x h ≡ true
conflict_active job h l s x o k = elim (cases_Bool (is_active x h)) [
  | inl a ↦ a
  | inr i ↦ absurd (both_ways _ (and_right _ _ (ap (λ os. clashes (wants_of core_locks os) (core_locks.wants o)) (idle_ops job core_locks h l x i))) k)
]

call_some : (o : Option ℕ) (c : ℕ) → o ≡ Some c → call_or_none o ≡ c
call_some o c q = ap call_or_none q

-- the call that a holder is in stands in its seat
pub holder_call : (job : Calls) (h : List Event) (s x : ℕ) (o : TableOp) (t : Seat) → IsLegal job core_locks h → IsSeat job h x t → is_in_conflict core_locks h s o x ≡ true → (call_or_none (call_of x h) ≡ t.call) × (1 ≤ t.call)
holder_call job h s x o t l i k =
    let a = sym i.active ∙ conflict_active job h l s x o k in
    (call_some _ _ (i.call a), i.some a)

pub seats_next : (job : Calls) (e : Event) (h : List Event) (seats : List Seat) → IsLegal job core_locks h → MayFollow job core_locks h e → AreSeats job h seats → session_of e < length seats
    → (t : Seat) → t ≡ seat_after e h (seat_at seats (session_of e)) → AreSeats job (e ∷ h) (slice_set seats (session_of e) t)
seats_next job e h seats l m a k t q s = elim (cases_eq s (session_of e)) [
  | inl r ↦
      let here : seat_at (slice_set seats (session_of e) t) s ≡ t = ap (seat_at (slice_set seats (session_of e) t)) r ∙ get_or-set_same seats (session_of e) t new_seat k in
      subst (λ (u : Seat). IsSeat job (e ∷ h) s u) (sym (here ∙ q)) (subst (λ (n : ℕ). IsSeat job (e ∷ h) n (seat_after e h (seat_at seats (session_of e)))) (sym r)
      (seat_own job core_locks e h (seat_at seats (session_of e)) m
      (λ x o r'. let c = (subst (MayFollow job core_locks h) r' m).holds in let y = holder_call job h (session_of e) x o (seat_at seats x) l (a x) c in (conflict_active job h l (session_of e) x o c, subst (λ (n : ℕ). 1 ≤ n) (sym y.0) y.1)) (a (session_of e))))
  | inr n ↦ subst (λ (u : Seat). IsSeat job (e ∷ h) s u) (sym (get_or-set_other seats (session_of e) s t new_seat n)) (seat_other job s e h (seat_at seats s) (λ r. n (sym r)) (a s))
]

-- an operation changes no seat
pub seats_op : (job : Calls) (s : ℕ) (o : TableOp) (h : List Event) (seats : List Seat) → AreSeats job h seats → AreSeats job (Op s o ∷ h) seats
seats_op job s o h seats a t = elim (cases_eq s t) [
  | inl q ↦ seat_still job t h (seat_at seats t) (a t) (Op s o) (call_own t (Op s o) h q) (λ c. refl) (λ c. stays_plain t c (Op s o) h refl refl (λ b. refl))
  | inr n ↦ seat_other job t (Op s o) h (seat_at seats t) n (a t)
]

all_new : (seats : List Seat) → All (λ (t : Seat). t ≡ new_seat) seats → (s : ℕ) → seat_at seats s ≡ new_seat
all_new [] a s = refl
all_new (t ∷ ts) a zero = a 0 new_seat (omega arith)
all_new (t ∷ ts) a (suc s) = all_new ts (λ k d l. a (suc k) d (omega arith)) s

pub seats_new : (job : Calls) (seats : List Seat) → All (λ (t : Seat). t ≡ new_seat) seats → AreSeats job [] seats
seats_new job seats a s = subst (λ (t : Seat). IsSeat job [] s t) (sym (all_new seats a s)) (seat_start job s)

-- the stamp of an active session
pub stamp_is : (job : Calls) (h : List Event) (s : ℕ) (t : Seat) → IsSeat job h s t → is_active s h ≡ true → t.stamp ≡ stamp_of s h
stamp_is job h s t i a =
    let on = sym i.active ∙ a in
    sym (ap (λ (o : Option ℕ). stamp_in s o h) (i.call on) ∙ (i.stamp (i.some on)).1)

-- ---- what a begin finds

lt_le : (r k : ℕ) → nat_lt r k ≡ nat_le (r + 1) k
lt_le r k = elim (cases_Bool (nat_lt r k)) [
  | inl b ↦ b ∙ sym (le-leb (r + 1) k (let z = ltb-true r k b in omega arith))
  | inr b ↦ b ∙ sym (false_from_ne_true _ (λ c. let z = leb-true (r + 1) k c in let y = ltb-false r k b in absurd (omega arith)))
]

passed_is : (job : Calls) (h : List Event) (x : ℕ) (u : Seat) → IsSeat job h x u → (d : ℕ) → 1 ≤ d → has_passed u job.retries d ≡ is_over job.retries x d h
passed_is job h x u i d p = elim (cases_Bool (nat_lt d u.call)) [
  | inl b ↦ or_left _ _ b ∙ sym (i.earlier d p (ltb-true d u.call b))
  | inr b ↦ elim (cases_eq d u.call) [
    | inl q ↦
        let l : has_passed u job.retries d ≡ u.ended || nat_lt job.retries u.deaths = ap (λ (z : Bool). z || ((d == u.call) && (u.ended || nat_lt job.retries u.deaths))) b ∙ ap (λ (z : Bool). z && (u.ended || nat_lt job.retries u.deaths)) (eq-eqb d u.call q) in
        let r : is_over job.retries x u.call h ≡ u.ended || nat_le (job.retries + 1) u.deaths = λ j. i.ended j || nat_le (job.retries + 1) (i.died j) in
        l ∙ (ap (λ (z : Bool). u.ended || z) (lt_le job.retries u.deaths) ∙ (sym r ∙ ap (λ (n : ℕ). is_over job.retries x n h) (sym q)))
    | inr n ↦
        let l : has_passed u job.retries d ≡ false = ap (λ (z : Bool). z || ((d == u.call) && (u.ended || nat_lt job.retries u.deaths))) b ∙ ap (λ (z : Bool). z && (u.ended || nat_lt job.retries u.deaths)) (ne_eqb d u.call n) in
        let past : u.call < d = let z = ltb-false d u.call b in omega (arith, n) in
        let y = i.beyond d past in
        let r : is_over job.retries x d h ≡ false = or_from _ _ y.2 (false_from_ne_true _ (λ c. let z = leb-true (job.retries + 1) (deaths x d h) c in let w = y.1 in absurd (omega arith))) in
        l ∙ sym r
  ]
]

none_is : (x : ℕ) → ◌≡◌ {A = Option ℕ} None (Some x) → ⊥
none_is x q = cc

number_same : (m n : ℕ) → ◌≡◌ {A = Option ℕ} (Some m) (Some n) → m ≡ n
number_same m n z = cc

not_true : (b : Bool) → not b ≡ true → b ≡ false
not_true true q = absurd (both_ways _ refl q)
not_true false q = refl

not_false : (b : Bool) → not b ≡ false → b ≡ true
not_false true q = refl
not_false false q = absurd (both_ways _ q refl)

-- the seat of the call that is due is that call's, or the call hasn't begun
due_seat : (job : Calls) (h : List Event) (s c : ℕ) (t : Seat) → IsSeat job h s t → IsDue job h s c → (t.call ≡ c) ⊎ (t.call < c)
due_seat job h s c t i u = elim (cases_eq t.call c) [
  | inl q ↦ inl q
  | inr n ↦ let before : c < t.call → ⊥ = λ l. both_ways _ u.open_yet (i.earlier c (u.listed).0 l) in inr (omega (arith, before, n))
]

module _ (job : Calls) (h : List Event) (s c : ℕ) (seats : List Seat) (a : AreSeats job h seats) (u : IsDue job h s c) where
  killer_is : (k : KilledBy) → (seat_at seats s).call ≡ c → (seat_at seats s).killer ≡ Some k → killer_of s c h ≡ Some (record { session = k.session; call = Some k.call })
  killer_is k q r = ap (λ (n : ℕ). killer_of s n h) (sym q) ∙ ((a s).killer ∙ ap as_killer r)

  held_is : (o : Option KilledBy) (x : ℕ) → (seat_at seats s).call ≡ c → (seat_at seats s).killer ≡ o → held_at seats job.retries o ≡ Some x → IsHeldUp job h s c x
  held_is None x q r w = absurd (none_is x w)
  held_is (Some k) x q r w = elim (cases_Bool (is_held seats job.retries k)) [
    | inr b ↦ absurd (none_is x (sym (cond-false _ _ _ b) ∙ w))
    | inl b ↦
        let p = passed_is job h k.session (seat_at seats k.session) (a k.session) k.call ((a s).killed k r) in
        let e : ◌≡◌ {A = Option ℕ} (Some k.session) (Some x) = sym (cond-true _ _ _ b) ∙ w in
        record { killer = record { session = k.session; call = Some k.call }; is = killer_is k q r; by = number_same _ _ e; open_yet = λ v. both_ways _ (sym p ∙ not_true _ b) v }
  ]

  pub begin_held : (x : ℕ) → held_by seats job.retries (seat_at seats s) c ≡ Some x → IsHeldUp job h s c x
  begin_held x w = elim (cases_eq (seat_at seats s).call c) [
    | inl q ↦ held_is (seat_at seats s).killer x q refl (sym (cond-true _ _ _ (eq-eqb (seat_at seats s).call c q)) ∙ w)
    | inr n ↦ absurd (none_is x (sym (cond-false _ _ _ (ne_eqb (seat_at seats s).call c n)) ∙ w))
  ]

  free_is : (o : Option KilledBy) → (seat_at seats s).killer ≡ o → held_at seats job.retries o ≡ None → IsOverFor job.retries (as_killer o) h
  free_is None r w = tt
  free_is (Some k) r w = elim (cases_Bool (is_held seats job.retries k)) [
    | inr b ↦ sym (passed_is job h k.session (seat_at seats k.session) (a k.session) k.call ((a s).killed k r)) ∙ not_false _ b
    | inl b ↦ absurd (none_is k.session (sym w ∙ cond-true _ _ _ b))
  ]

  pub deaths_are : deaths_in (seat_at seats s) c ≡ deaths s c h
  deaths_are = elim (due_seat job h s c (seat_at seats s) (a s) u) [
    | inl q ↦ cond-true _ _ _ (eq-eqb (seat_at seats s).call c q) ∙ (sym (a s).died ∙ ap (λ (n : ℕ). deaths s n h) q)
    | inr n ↦ cond-false _ _ _ (ne_eqb (seat_at seats s).call c (λ q. omega (arith, q))) ∙ sym ((a s).beyond c n).1
  ]

  pub few_due : deaths s c h ≤ job.retries
  few_due = few_deaths job.retries s c h u.open_yet

  pub begin_may : is_active s h ≡ false → held_by seats job.retries (seat_at seats s) c ≡ None → MayBegin job h s c (deaths s c h + 1)
  begin_may idle w = record {
    idle = idle;
    listed = u.listed;
    earlier = u.earlier;
    open_yet = u.open_yet;
    counted = refl;
    waited = λ _. elim (due_seat job h s c (seat_at seats s) (a s) u) [
      | inl q ↦ subst (λ (o : Option Killer). IsOverFor job.retries o h) (sym (a s).killer ∙ ap (λ (m : ℕ). killer_of s m h) q) (free_is (seat_at seats s).killer refl (sym (cond-true _ _ _ (eq-eqb (seat_at seats s).call c q)) ∙ w))
      | inr m ↦ subst (λ (o : Option Killer). IsOverFor job.retries o h) (sym ((a s).beyond c m).3) tt
    ];
  }

-- ---- how many calls have begun

pub stamps_same : (e : Event) (h : List Event) → is_first e h ≡ false → stamps (e ∷ h) ≡ stamps h
unfolding stamps
stamps_same e h q = cond-false _ _ _ q

due_of : (job : Calls) (h : List Event) (s c a : ℕ) → MayBegin job h s c a → IsDue job h s c
due_of job h s c a m = record { listed = m.listed; earlier = m.earlier; open_yet = m.open_yet }

pub stamps_again : (job : Calls) (h : List Event) (s c a : ℕ) (t : Seat) → IsSeat job h s t → MayBegin job h s c a → t.call ≡ c → stamps (Begin s c a ∷ h) ≡ stamps h
unfolding stamps
stamps_again job h s c a t i m q = cond-false _ _ _ (ap not (subst (λ (n : ℕ). begun s n h ≡ true) q (i.stamp (let z = (m.listed).0 in omega (arith, q))).0))

pub stamps_first : (job : Calls) (h : List Event) (s c a : ℕ) (t : Seat) → IsSeat job h s t → MayBegin job h s c a → t.call ≢ c → stamps (Begin s c a ∷ h) ≡ stamps h + 1
unfolding stamps
stamps_first job h s c a t i m n = elim (due_seat job h s c t i (due_of job h s c a m)) [
  | inl q ↦ absurd (n q)
  | inr l ↦ cond-true _ _ _ (ap not (i.beyond c l).0)
]
