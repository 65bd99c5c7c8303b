-- Some session can always make an event: who waits for a lock waits for a younger one, and who died waits for an older one.
use Rattle.std.proofs.Common.{◌≡◌, ◌⊎◌, ℕ, zero, suc, ◌<◌, ◌≤◌, ◌+◌, true, false, not, ◌&&◌, List, [], ◌∷◌, Option, Some, None, is_some, refl, sym, ap, ◌∙◌, subst, arith, inl, inr}
use Rattle.std.proofs.lemmas.Bool.{and_parts, or_left, or_right, or_cases, both_ways, cases_Bool, cases_lt, cond-true, cond-false, eqb-true, eq-eqb, leb-true, le-leb, not-true}
use Rattle.px_value.specs.declared.statement.TableOp.{TableOp}
use Rattle.px_rows.specs.Tables.{Tables}
use Rattle.px_locks.specs.declared.want.Grant.{Grant}
use Rattle.px_locks.specs.declared.book.Asked.{Asked}
use Rattle.px_locks.specs.declared.book.Asked.TheVariants.{Granted, Waits, Dies}
use Rattle.px_locks.specs.Locks.{oldest_from, IsTold}
use Rattle.px_locks.proofs.Best.{free, oldest}
use Rattle.px_locks.specs.declared.want.Want.{Want}
use Rattle.px_history.specs.declared.event.Event.{Event}
use Rattle.px_history.specs.declared.event.Event.TheVariants.{Begin, Op, Die, End, Drop}
use Rattle.px_history.specs.Attempts.{session_of, is_of, call_of, is_active, begins, begun, is_first, stamps, stamp_of_call, stamp_in, stamp_of, is_call, is_death, deaths, has_ended, is_over, Killer, killer_in, killer_of}
use Rattle.px_history.specs.Locking.{LockForm}
use Rattle.px_history.specs.Legal.{Calls, IsOverCall, IsOverFor, MayBegin, MustDie, MayFollow, IsLegal}
use Rattle.px_history.specs.Booked.{IsBooked}
use Rattle.px_history.specs.Serial.{Outcome, Asks, Ends, Meaning, outcome_of}
use Rattle.px_history.specs.Moves.{IsDue, CanMove, begins_call, does, dies, ends}
use Rattle.px_history.proofs.Book.{granted_free, dies_must, waits_named, begun_active, conflict_in}

-- ---- stamps

stamp_old : (s c : ℕ) (e : Event) (h : List Event) → begun s c h ≡ true → stamp_of_call s c (e ∷ h) ≡ stamp_of_call s c h
unfolding stamp_of_call
stamp_old s c e h b = cond-true _ _ _ b

stamp_new : (s c : ℕ) (e : Event) (h : List Event) → begun s c h ≡ false → begins s c e ≡ true → stamp_of_call s c (e ∷ h) ≡ stamps h + 1
unfolding stamp_of_call
stamp_new s c e h b k = cond-false _ _ _ b ∙ cond-true _ _ _ k

first_of_call : (s c : ℕ) (e : Event) (h : List Event) → begun s c h ≡ false → begins s c e ≡ true → is_first e h ≡ true
first_of_call s c (Begin t d a) h b k =
    let p = and_parts _ _ k in
    let q = eqb-true t s p.0 in
    let r = eqb-true d c p.1 in
    ap not ((λ i. begun (q i) (r i) h) ∙ b)
first_of_call s c (Op t o) h b k = absurd (both_ways _ refl k)
first_of_call s c (Die t o x) h b k = absurd (both_ways _ refl k)
first_of_call s c (End t d) h b k = absurd (both_ways _ refl k)
first_of_call s c (Drop t) h b k = absurd (both_ways _ refl k)

stamps_first : (e : Event) (h : List Event) → is_first e h ≡ true → stamps (e ∷ h) ≡ stamps h + 1
unfolding stamps
stamps_first e h q = cond-true _ _ _ q

stamps_mono : (e : Event) (h : List Event) → stamps h ≤ stamps (e ∷ h)
unfolding stamps
stamps_mono e h = elim (cases_Bool (is_first e h)) [
  | inl q ↦ let z : stamps (e ∷ h) ≡ stamps h + 1 = cond-true _ _ _ q in omega arith
  | inr q ↦ let z : stamps (e ∷ h) ≡ stamps h = cond-false _ _ _ q in omega arith
]

begun_cases : (s c : ℕ) (e : Event) (h : List Event) → begun s c (e ∷ h) ≡ true → (begun s c h ≡ true) ⊎ ((begun s c h ≡ false) × (begins s c e ≡ true))
unfolding begun
begun_cases s c e h b = elim (cases_Bool (begun s c h)) [
  | inl q ↦ inl q
  | inr q ↦ inr (q, elim (or_cases _ _ b) [ inl k ↦ k | inr k ↦ absurd (both_ways _ q k) ])
]

pub stamp_within : (h : List Event) (s c : ℕ) → begun s c h ≡ true → (1 ≤ stamp_of_call s c h) × (stamp_of_call s c h ≤ stamps h)
unfolding begun
stamp_within [] s c b = absurd (both_ways _ refl b)
stamp_within (e ∷ h) s c b = elim (begun_cases s c e h b) [
  | inl q ↦
      let i = stamp_within h s c q in
      let z = stamp_old s c e h q in
      let m = stamps_mono e h in
      (omega (arith, i.0), omega (arith, i.1))
  | inr p ↦
      let z = stamp_new s c e h p.0 p.1 in
      let m = stamps_first e h (first_of_call s c e h p.0 p.1) in
      (omega arith, omega arith)
]

same_begin : (s c x d : ℕ) (e : Event) → begins s c e ≡ true → begins x d e ≡ true → s ≡ x
same_begin s c x d (Begin t b a) k l = sym (eqb-true t s (and_parts _ _ k).0) ∙ eqb-true t x (and_parts _ _ l).0
same_begin s c x d (Op t o) k l = absurd (both_ways _ refl k)
same_begin s c x d (Die t o y) k l = absurd (both_ways _ refl k)
same_begin s c x d (End t y) k l = absurd (both_ways _ refl k)
same_begin s c x d (Drop t) k l = absurd (both_ways _ refl k)

-- no two sessions' calls have one stamp
pub stamp_apart : (h : List Event) (s c x d : ℕ) → begun s c h ≡ true → begun x d h ≡ true → stamp_of_call s c h ≡ stamp_of_call x d h → s ≡ x
unfolding begun
stamp_apart [] s c x d b b' q = absurd (both_ways _ refl b)
stamp_apart (e ∷ h) s c x d b b' q = elim (begun_cases s c e h b) [
  | inl k ↦ elim (begun_cases x d e h b') [
    | inl l ↦ stamp_apart h s c x d k l (sym (stamp_old s c e h k) ∙ q ∙ stamp_old x d e h l)
    | inr l ↦
        let z = stamp_old s c e h k in
        let w = stamp_new x d e h l.0 l.1 in
        let v = (stamp_within h s c k).1 in
        absurd (omega arith)
  ]
  | inr k ↦ elim (begun_cases x d e h b') [
    | inl l ↦
        let z = stamp_old x d e h l in
        let w = stamp_new s c e h k.0 k.1 in
        let v = (stamp_within h x d l).1 in
        absurd (omega arith)
    | inr l ↦ same_begin s c x d e k.1 l.1
  ]
]

call_in : (h : List Event) (s : ℕ) (o : Option ℕ) → is_some o ≡ true → call_of s h ≡ o → (c : ℕ) × (call_of s h ≡ Some c)
call_in h s None i q = absurd (both_ways _ refl i)
call_in h s (Some c) i q = (c, q)

active_within : (h : List Event) (s : ℕ) → is_active s h ≡ true → stamp_of s h ≤ stamps h
active_within h s a =
    let p = call_in h s (call_of s h) a refl in
    let z : stamp_of s h ≡ stamp_of_call s p.0 h = ap (λ (o : Option ℕ). stamp_in s o h) p.1 in
    let w = (stamp_within h s p.0 (begun_active h s p.0 p.1)).1 in
    omega arith

-- no two active sessions have one stamp
pub active_apart : (h : List Event) (s x : ℕ) → is_active s h ≡ true → is_active x h ≡ true → stamp_of s h ≡ stamp_of x h → s ≡ x
active_apart h s x a b q =
    let p = call_in h s (call_of s h) a refl in
    let r = call_in h x (call_of x h) b refl in
    stamp_apart h s p.0 x r.0 (begun_active h s p.0 p.1) (begun_active h x r.0 r.1)
    (sym (ap (λ (o : Option ℕ). stamp_in s o h) p.1) ∙ q ∙ ap (λ (o : Option ℕ). stamp_in x o h) r.1)

-- ---- who waits for a lock

-- it waits for an active session with a greater stamp
pub waits_younger : (form : LockForm) (gs : List Grant) (h : List Event) → IsBooked form gs h → (s : ℕ) (o : TableOp) (x : ℕ) → is_active s h ≡ true → IsTold gs s (stamp_of s h) (form.wants o) (Waits x) → (is_active x h ≡ true) × (stamp_of s h < stamp_of x h)
waits_younger form gs h b s o x a q =
    let w = waits_named form gs h b s o x q in
    let r = conflict_in form gs h b s o x (w.0).holds in
    let i : is_active x h ≡ true = ap (λ (t : ℕ). is_active t h) (sym r.2) ∙ b.active r.0 r.1 in
    let n : s ≡ x → ⊥ = λ k. both_ways _ (not-true _ (and_parts _ _ (w.0).holds).0) (eq-eqb x s (sym k)) in
    let d : stamp_of s h ≡ stamp_of x h → ⊥ = λ k. n (active_apart h s x a i k) in
    (i, omega (arith, w.1, d))

-- whoever asks is told something
answered : (gs : List Grant) (s stamp : ℕ) (ws : List Want) (r : Option Grant) → oldest_from s ws None gs ≡ r → (a : Asked) × IsTold gs s stamp ws a
answered gs s stamp ws None h = (Granted, free s ws gs h)
answered gs s stamp ws (Some g) h = elim (cases_lt g.stamp stamp) [
  | inl l ↦ (Dies g.session, (g, oldest s ws gs g h, l))
  | inr m ↦ (Waits g.session, (g, oldest s ws gs g h, omega (arith, m)))
]

moves_asked : (Heap : Type 0) (M : Meaning Heap) (job : Calls) (form : LockForm) (T0 : Tables) (gs : List Grant) (h : List Event) → IsBooked form gs h → (s : ℕ) → is_active s h ≡ true → ((x : ℕ) → is_active x h ≡ true → stamp_of s h < stamp_of x h → (y : ℕ) × CanMove M job form T0 h y)
    → (o : TableOp) → outcome_of M T0 s h ≡ Asks o → (r : Asked) → IsTold gs s (stamp_of s h) (form.wants o) r → (y : ℕ) × CanMove M job form T0 h y
moves_asked Heap M job form T0 gs h b s a again o q Granted r = (s, does o q (record { active = a; free = granted_free form gs h b s o r }))
moves_asked Heap M job form T0 gs h b s a again o q (Dies x) r = (s, dies o x q (dies_must form gs h b s o x a r))
moves_asked Heap M job form T0 gs h b s a again o q (Waits x) r = let w = waits_younger form gs h b s o x a r in again x w.0 w.1

moves_from : (Heap : Type 0) (M : Meaning Heap) (job : Calls) (form : LockForm) (T0 : Tables) (gs : List Grant) (h : List Event) → IsBooked form gs h → (s : ℕ) → is_active s h ≡ true → ((x : ℕ) → is_active x h ≡ true → stamp_of s h < stamp_of x h → (y : ℕ) × CanMove M job form T0 h y)
    → (r : Outcome Heap) → outcome_of M T0 s h ≡ r → (y : ℕ) × CanMove M job form T0 h y
moves_from Heap M job form T0 gs h b s a again (Asks o) q = let r = answered gs s (stamp_of s h) (form.wants o) (oldest_from s (form.wants o) None gs) refl in moves_asked Heap M job form T0 gs h b s a again o q r.0 r.1
moves_from Heap M job form T0 gs h b s a again (Ends reply prints heap) q = (s, ends reply prints heap q a)

-- from an active session the chain of those that wait comes to one that can move
chain_up : (Heap : Type 0) (M : Meaning Heap) (job : Calls) (form : LockForm) (T0 : Tables) (gs : List Grant) (h : List Event) → IsBooked form gs h → (n s : ℕ) → is_active s h ≡ true → stamps h ≤ n + stamp_of s h → (y : ℕ) × CanMove M job form T0 h y
chain_up Heap M job form T0 gs h b zero s a k = moves_from Heap M job form T0 gs h b s a (λ x i l. let v = active_within h x i in absurd (omega arith)) (outcome_of M T0 s h) refl
chain_up Heap M job form T0 gs h b (suc n) s a k = moves_from Heap M job form T0 gs h b s a (λ x i l. chain_up Heap M job form T0 gs h b n x i (omega arith)) (outcome_of M T0 s h) refl

pub active_moves : (Heap : Type 0) (M : Meaning Heap) (job : Calls) (form : LockForm) (T0 : Tables) (gs : List Grant) (h : List Event) → IsBooked form gs h → (s : ℕ) → is_active s h ≡ true → (y : ℕ) × CanMove M job form T0 h y
active_moves Heap M job form T0 gs h b s a = chain_up Heap M job form T0 gs h b (stamps h) s a (omega arith)

-- ---- who died waits for a call with a smaller stamp

deaths_more : (s c : ℕ) (e : Event) (h : List Event) → deaths s c h ≤ deaths s c (e ∷ h)
unfolding deaths
deaths_more s c e h = elim (cases_Bool ((is_of s e && is_death e) && is_call c (call_of s h))) [
  | inl q ↦ let z : deaths s c (e ∷ h) ≡ deaths s c h + 1 = cond-true _ _ _ q in omega arith
  | inr q ↦ let z : deaths s c (e ∷ h) ≡ deaths s c h = cond-false _ _ _ q in omega arith
]

over_mono : (retries s c : ℕ) (e : Event) (h : List Event) → is_over retries s c h ≡ true → is_over retries s c (e ∷ h) ≡ true
unfolding has_ended
over_mono retries s c e h q = elim (or_cases _ _ q) [
  | inl a ↦ or_left _ _ (or_right _ _ a)
  | inr b ↦ or_right _ _ (let l = leb-true (retries + 1) (deaths s c h) b in let m = deaths_more s c e h in le-leb (retries + 1) (deaths s c (e ∷ h)) (omega arith))
]

-- a call that has begun is one of the job's, and all earlier ones are over
begun_now_due : (job : Calls) (form : LockForm) (e : Event) (h : List Event) → MayFollow job form h e → (s c : ℕ) → begins s c e ≡ true → ((1 ≤ c) × (c ≤ job.calls s)) × ((d : ℕ) → 1 ≤ d → d < c → is_over job.retries s d h ≡ true)
begun_now_due job form (Begin t b a) h m s c k =
    let p = and_parts _ _ k in
    let q = eqb-true t s p.0 in
    let r = eqb-true b c p.1 in
    subst (λ (u : ℕ). ((1 ≤ c) × (c ≤ job.calls u)) × ((d : ℕ) → 1 ≤ d → d < c → is_over job.retries u d h ≡ true)) q
    (subst (λ (v : ℕ). ((1 ≤ v) × (v ≤ job.calls t)) × ((d : ℕ) → 1 ≤ d → d < v → is_over job.retries t d h ≡ true)) r (m.listed, m.earlier))
begun_now_due job form (Op t o) h m s c k = absurd (both_ways _ refl k)
begun_now_due job form (Die t o x) h m s c k = absurd (both_ways _ refl k)
begun_now_due job form (End t d) h m s c k = absurd (both_ways _ refl k)
begun_now_due job form (Drop t) h m s c k = absurd (both_ways _ refl k)

pub begun_due : (job : Calls) (form : LockForm) (h : List Event) → IsLegal job form h → (s c : ℕ) → begun s c h ≡ true → ((1 ≤ c) × (c ≤ job.calls s)) × ((d : ℕ) → 1 ≤ d → d < c → is_over job.retries s d h ≡ true)
unfolding begun
begun_due job form [] l s c b = absurd (both_ways _ refl b)
begun_due job form (e ∷ h) l s c b = elim (begun_cases s c e h b) [
  | inl q ↦ let i = begun_due job form h l.1 s c q in (i.0, λ d u v. over_mono job.retries s d e h (i.1 d u v))
  | inr k ↦ let i = begun_now_due job form e h l.0 s c k.1 in (i.0, λ d u v. over_mono job.retries s d e h (i.1 d u v))
]

-- the killer's call and the one that it killed, with their stamps
record Kills (h : List Event) (s c : ℕ) (k : Killer) : Type 0 where
  begun_here : begun s c h ≡ true
  begun_there : (d : ℕ) → k.call ≡ Some d → begun k.session d h ≡ true
  smaller : (d : ℕ) → k.call ≡ Some d → stamp_of_call k.session d h < stamp_of_call s c h

kills_kept : (e : Event) (h : List Event) (s c : ℕ) (k : Killer) → Kills h s c k → Kills (e ∷ h) s c k
unfolding begun
kills_kept e h s c k i = record {
  begun_here = or_right _ _ i.begun_here;
  begun_there = λ d q. or_right _ _ (i.begun_there d q);
  smaller = λ d q.
      let z = stamp_old s c e h i.begun_here in
      let w = stamp_old k.session d e h (i.begun_there d q) in
      let v = i.smaller d q in
      omega arith;
}

call_is : (c : ℕ) (o : Option ℕ) → is_call c o ≡ true → o ≡ Some c
call_is c None q = absurd (both_ways _ refl q)
call_is c (Some d) q = ap Some (sym (eqb-true c d q))

kills_now : (form : LockForm) (h : List Event) (s : ℕ) (o : TableOp) (x : ℕ) → MustDie form h s o x → (c : ℕ) → call_of s h ≡ Some c → Kills h s c (record { session = x; call = call_of x h })
kills_now form h s o x m c q = record {
  begun_here = begun_active h s c q;
  begun_there = λ d r. begun_active h x d r;
  smaller = λ d r.
      let z : stamp_of x h ≡ stamp_of_call x d h = ap (λ (p : Option ℕ). stamp_in x p h) r in
      let w : stamp_of s h ≡ stamp_of_call s c h = ap (λ (p : Option ℕ). stamp_in s p h) q in
      omega (arith, m.older);
}

kills_at : (job : Calls) (form : LockForm) (e : Event) (h : List Event) → MayFollow job form h e → (c : ℕ) → call_of (session_of e) h ≡ Some c → (before : Option Killer) → ((k : Killer) → before ≡ Some k → Kills h (session_of e) c k) → (k : Killer) → killer_in e h before ≡ Some k → Kills h (session_of e) c k
kills_at job form (Begin s b a) h m c q before i k r = i k r
kills_at job form (Op s o) h m c q before i k r = i k r
kills_at job form (Die s o x) h m c q before i k r = subst (λ (z : Killer). Kills h s c z) (the_same (record { session = x; call = call_of x h }) k r) (kills_now form h s o x m c q)
  where
    the_same : (u v : Killer) → ◌≡◌ {A = Option Killer} (Some u) (Some v) → u ≡ v
    the_same u v w = cc
kills_at job form (End s d) h m c q before i k r = i k r
kills_at job form (Drop s) h m c q before i k r = i k r

kills : (job : Calls) (form : LockForm) (h : List Event) → IsLegal job form h → (s c : ℕ) (k : Killer) → killer_of s c h ≡ Some k → Kills h s c k
unfolding killer_of
kills job form [] l s c k q = cc
kills job form (e ∷ h) l s c k q = elim (cases_Bool (is_of s e && is_call c (call_of s h))) [
  | inl b ↦
      let p = and_parts _ _ b in
      let t = eqb-true (session_of e) s p.0 in
      let r : killer_in e h (killer_of s c h) ≡ Some k = sym (cond-true _ _ _ b) ∙ q in
      kills_kept e h s c k (subst (λ (u : ℕ). Kills h u c k) t
      (kills_at job form e h l.0 c (ap (λ (u : ℕ). call_of u h) t ∙ call_is c (call_of s h) p.1) (killer_of s c h) (λ z w. subst (λ (u : ℕ). Kills h u c z) (sym t) (kills job form h l.1 s c z w)) k r))
  | inr b ↦ kills_kept e h s c k (kills job form h l.1 s c k (sym (cond-false _ _ _ b) ∙ q))
]

-- ---- some session can move

-- the call that the killer was in, where it isn't over
call_open : (job : Calls) (h : List Event) (k : Killer) → (IsOverFor job.retries (Some k) h) ⊎ ((d : ℕ) × (k.call ≡ Some d) × (is_over job.retries k.session d h ≡ false))
call_open job h k = by_call k.call refl
  where
    by_call : (o : Option ℕ) → k.call ≡ o → (IsOverFor job.retries (Some k) h) ⊎ ((d : ℕ) × (k.call ≡ Some d) × (is_over job.retries k.session d h ≡ false))
    by_call None q = inl (subst (λ (o : Option ℕ). IsOverCall job.retries k.session o h) (sym q) tt)
    by_call (Some d) q = elim (cases_Bool (is_over job.retries k.session d h)) [
      | inl r ↦ inl (subst (λ (o : Option ℕ). IsOverCall job.retries k.session o h) (sym q) r)
      | inr r ↦ inr (d, q, r)
    ]

begin_or : (job : Calls) (h : List Event) (s c : ℕ) → IsDue job h s c → is_active s h ≡ false → (o : Option Killer) → killer_of s c h ≡ o → (MayBegin job h s c (deaths s c h + 1)) ⊎ ((k : Killer) × (killer_of s c h ≡ Some k) × ((d : ℕ) × (k.call ≡ Some d) × (is_over job.retries k.session d h ≡ false)))
begin_or job h s c u i None q = inl (record { idle = i; listed = u.listed; earlier = u.earlier; open_yet = u.open_yet; counted = refl; waited = λ _. subst (λ (o : Option Killer). IsOverFor job.retries o h) (sym q) tt })
begin_or job h s c u i (Some k) q = elim (call_open job h k) [
  | inl r ↦ inl (record { idle = i; listed = u.listed; earlier = u.earlier; open_yet = u.open_yet; counted = refl; waited = λ _. subst (λ (o : Option Killer). IsOverFor job.retries o h) (sym q) r })
  | inr r ↦ inr (k, q, r)
]

due_from : (Heap : Type 0) (M : Meaning Heap) (job : Calls) (form : LockForm) (T0 : Tables) (gs : List Grant) (h : List Event) → IsLegal job form h → IsBooked form gs h → (s c : ℕ) → IsDue job h s c
    → ((x d : ℕ) → IsDue job h x d → stamp_of_call x d h < stamp_of_call s c h → (y : ℕ) × CanMove M job form T0 h y) → (y : ℕ) × CanMove M job form T0 h y
due_from Heap M job form T0 gs h l b s c u again = elim (cases_Bool (is_active s h)) [
  | inl a ↦ active_moves Heap M job form T0 gs h b s a
  | inr i ↦ elim (begin_or job h s c u i (killer_of s c h) refl) [
    | inl m ↦ (s, begins_call c (deaths s c h + 1) m)
    | inr r ↦
        let w = kills job form h l s c r.0 r.1 in
        let due = begun_due job form h l (r.0).session (r.2).0 (w.begun_there (r.2).0 (r.2).1) in
        again (r.0).session (r.2).0 (record { listed = due.0; earlier = due.1; open_yet = (r.2).2 }) (w.smaller (r.2).0 (r.2).1)
  ]
]

-- from a session whose next call waits, the chain of killers comes to one that can move
chain_down : (Heap : Type 0) (M : Meaning Heap) (job : Calls) (form : LockForm) (T0 : Tables) (gs : List Grant) (h : List Event) → IsLegal job form h → IsBooked form gs h → (n s c : ℕ) → IsDue job h s c → stamp_of_call s c h ≤ n → (y : ℕ) × CanMove M job form T0 h y
chain_down Heap M job form T0 gs h l b zero s c u k = due_from Heap M job form T0 gs h l b s c u (λ x d q r. absurd (omega arith))
chain_down Heap M job form T0 gs h l b (suc n) s c u k = due_from Heap M job form T0 gs h l b s c u (λ x d q r. chain_down Heap M job form T0 gs h l b n x d q (omega arith))

-- while a call is due, some session can begin, do, die or end
pub some_moves : (Heap : Type 0) (M : Meaning Heap) (job : Calls) (form : LockForm) (T0 : Tables) (gs : List Grant) (h : List Event) → IsLegal job form h → IsBooked form gs h → (s c : ℕ) → IsDue job h s c → (y : ℕ) × CanMove M job form T0 h y
some_moves Heap M job form T0 gs h l b s c u = chain_down Heap M job form T0 gs h l b (stamp_of_call s c h) s c u (omega arith)
