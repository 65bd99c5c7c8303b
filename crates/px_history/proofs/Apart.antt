-- In a legal history no session's attempt writes what another one's touches.
use Rattle.std.proofs.Common.{◌≡◌, ◌≢◌, ℕ, true, false, List, [], ◌∷◌, is_some, refl, sym, ap, ◌∙◌, subst, inl, inr}
use Rattle.std.proofs.lemmas.Bool.{and_cases, or_from, or_cases, ne_eqb, eq-eqb, both_ways, cond-true, cond-false, cases_eq, not_from_false}
use Rattle.px_value.specs.declared.statement.TableOp.{TableOp}
use Rattle.px_rows.specs.Tables.{Place}
use Rattle.px_history.specs.Places.{puts, touches, written, touched}
use Rattle.px_history.proofs.Rows.{written-push, touched-push}
use Rattle.px_history.specs.declared.event.Event.{Event}
use Rattle.px_history.specs.declared.event.Event.TheVariants.{Begin, Op, Die, End, Drop}
use Rattle.px_history.specs.Attempts.{session_of, ops_of, ops_after, call_of, call_after, is_active}
use Rattle.px_history.specs.Locking.{LockForm, IsFree}
use Rattle.px_history.specs.Legal.{Calls, MayFollow, IsLegal}
use Rattle.px_history.proofs.Guards.{Guards, guard_all}

-- ---- an event is of its session alone

pub ops_own : (s : ℕ) (e : Event) (h : List Event) → session_of e ≡ s → ops_of s (e ∷ h) ≡ ops_after e (ops_of s h)
unfolding ops_of
ops_own s e h q = cond-true _ _ _ (eq-eqb (session_of e) s q)

pub ops_other : (s : ℕ) (e : Event) (h : List Event) → session_of e ≢ s → ops_of s (e ∷ h) ≡ ops_of s h
unfolding ops_of
ops_other s e h n = cond-false _ _ _ (ne_eqb (session_of e) s n)

pub call_own : (s : ℕ) (e : Event) (h : List Event) → session_of e ≡ s → call_of s (e ∷ h) ≡ call_after e (call_of s h)
unfolding call_of
call_own s e h q = cond-true _ _ _ (eq-eqb (session_of e) s q)

pub call_other : (s : ℕ) (e : Event) (h : List Event) → session_of e ≢ s → call_of s (e ∷ h) ≡ call_of s h
unfolding call_of
call_other s e h n = cond-false _ _ _ (ne_eqb (session_of e) s n)

-- ---- a session that isn't active has no operations

idle_after : (job : Calls) (form : LockForm) (e : Event) (h : List Event) → MayFollow job form h e → is_some (call_after e (call_of (session_of e) h)) ≡ false → ops_after e (ops_of (session_of e) h) ≡ []
idle_after job form (Begin s c a) h m i = refl
idle_after job form (Op s o) h m i = absurd (both_ways _ i m.active)
idle_after job form (Die s o x) h m i = refl
idle_after job form (End s d) h m i = refl
idle_after job form (Drop s) h m i = refl

pub idle_ops : (job : Calls) (form : LockForm) (h : List Event) → IsLegal job form h → (s : ℕ) → is_active s h ≡ false → ops_of s h ≡ []
unfolding ops_of
idle_ops job form [] l s i = refl
idle_ops job form (e ∷ h) l s i = elim (cases_eq (session_of e) s) [
  | inl q ↦ subst (λ (t : ℕ). is_active t (e ∷ h) ≡ false → ops_of t (e ∷ h) ≡ []) q (λ j. ops_own (session_of e) e h refl ∙ idle_after job form e h l.0 (sym (ap is_some (call_own (session_of e) e h refl)) ∙ j)) i
  | inr n ↦ ops_other s e h n ∙ idle_ops job form h l.1 s (sym (ap is_some (call_other s e h n)) ∙ i)
]

-- ---- apart

-- a session that is free to do an operation meets no other one's attempt
pub free_apart : (form : LockForm) → Guards form → (h : List Event) (s : ℕ) (o : TableOp) → IsFree form h s o → (x : ℕ) → x ≢ s → (c : Place) → (written (ops_of x h) c ≡ true → touches o c ≡ false) × (puts o c ≡ true → touched (ops_of x h) c ≡ false)
free_apart form g h s o f x n c = guard_all form g (ops_of x h) o (elim (and_cases _ _ (f x)) [ inl a ↦ absurd (both_ways _ a (not_from_false _ (ne_eqb x s n))) | inr b ↦ b ]) c

touched_after : (job : Calls) (form : LockForm) → Guards form → (e : Event) (h : List Event) → MayFollow job form h e → (x : ℕ) → x ≢ session_of e → (c : Place) → written (ops_of x h) c ≡ true → touched (ops_of (session_of e) h) c ≡ false → touched (ops_after e (ops_of (session_of e) h)) c ≡ false
touched_after job form g (Begin s b a) h m x n c w i = refl
touched_after job form g (Op s o) h m x n c w i = touched-push (ops_of s h) o c ∙ or_from _ _ i ((free_apart form g h s o m.free x n c).0 w)
touched_after job form g (Die s o y) h m x n c w i = refl
touched_after job form g (End s d) h m x n c w i = refl
touched_after job form g (Drop s) h m x n c w i = refl

written_after : (job : Calls) (form : LockForm) → Guards form → (e : Event) (h : List Event) → MayFollow job form h e → (s : ℕ) → s ≢ session_of e → (c : Place) → (written (ops_of (session_of e) h) c ≡ true → touched (ops_of s h) c ≡ false) → written (ops_after e (ops_of (session_of e) h)) c ≡ true → touched (ops_of s h) c ≡ false
written_after job form g (Begin x b a) h m s n c i w = absurd (both_ways _ refl w)
written_after job form g (Op x o) h m s n c i w = elim (or_cases _ _ (sym (written-push (ops_of x h) o c) ∙ w)) [
  | inl a ↦ i a
  | inr b ↦ (free_apart form g h x o m.free s n c).1 b
]
written_after job form g (Die x o y) h m s n c i w = absurd (both_ways _ refl w)
written_after job form g (End x d) h m s n c i w = absurd (both_ways _ refl w)
written_after job form g (Drop x) h m s n c i w = absurd (both_ways _ refl w)

-- no session's attempt touches what another one's writes
pub apart : (job : Calls) (form : LockForm) → Guards form → (h : List Event) → IsLegal job form h → (s x : ℕ) → s ≢ x → (c : Place) → written (ops_of x h) c ≡ true → touched (ops_of s h) c ≡ false
unfolding ops_of
apart job form g [] l s x n c w = refl
apart job form g (e ∷ h) l s x n c w = elim (cases_eq (session_of e) s) [
  | inl q ↦
      let k : x ≢ session_of e = λ r. n (sym (r ∙ q)) in
      let v : written (ops_of x h) c ≡ true = ap (λ (os : List TableOp). written os c) (sym (ops_other x e h (λ r. k (sym r)))) ∙ w in
      let i : touched (ops_of (session_of e) h) c ≡ false = apart job form g h l.1 (session_of e) x (λ r. n (sym q ∙ r)) c v in
      ap (λ (os : List TableOp). touched os c) (ops_own s e h q) ∙ subst (λ (t : ℕ). touched (ops_after e (ops_of t h)) c ≡ false) q (touched_after job form g e h l.0 x k c v i)
  | inr m ↦ elim (cases_eq (session_of e) x) [
    | inl q ↦
        let v : written (ops_after e (ops_of (session_of e) h)) c ≡ true = subst (λ (t : ℕ). written (ops_after e (ops_of t h)) c ≡ true) (sym q) (ap (λ (os : List TableOp). written os c) (sym (ops_own x e h q)) ∙ w) in
        ap (λ (os : List TableOp). touched os c) (ops_other s e h m) ∙ written_after job form g e h l.0 s (λ r. m (sym r)) c (apart job form g h l.1 s (session_of e) (λ r. m (sym r)) c) v
    | inr k ↦ ap (λ (os : List TableOp). touched os c) (ops_other s e h m) ∙ apart job form g h l.1 s x n c (ap (λ (os : List TableOp). written os c) (sym (ops_other x e h k)) ∙ w)
  ]
]
