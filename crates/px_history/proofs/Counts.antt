-- An attempt is at most 102 events.
use Rattle.std.proofs.Common.{◌≡◌, ◌≢◌, ℕ, ◌≤◌, ◌+◌, ◌*◌, Bool, true, false, List, [], ◌∷◌, length, is_some, refl, sym, ap, ◌∙◌, subst, arith, inl, inr, length-append}
use Rattle.std.proofs.lemmas.Bool.{both_ways, cases_eq, cond-true, cond-false, eq-eqb, ne_eqb, and_left, and_right, and_from}
use Rattle.px_rows.specs.Tables.{Tables}
use Rattle.px_history.specs.declared.event.Event.{Event}
use Rattle.px_history.specs.declared.event.Event.TheVariants.{Begin, Op, Die, End, Drop}
use Rattle.px_history.specs.Attempts.{session_of, ops_of, call_of, is_active}
use Rattle.px_history.specs.Locking.{LockForm}
use Rattle.px_history.specs.Legal.{Calls, MayFollow, IsLegal}
use Rattle.px_history.specs.Serial.{Meaning, IsBounded, IsOwn}
use Rattle.px_history.specs.Moves.{made, tries, is_begin}
use Rattle.px_history.proofs.Apart.{ops_own, ops_other, call_own, call_other}
use Rattle.px_history.proofs.Serially.{ops_few}

made_own : (e : Event) (h : List Event) → made (session_of e) (e ∷ h) ≡ made (session_of e) h + 1
unfolding made
made_own e h = cond-true _ _ _ (eq-eqb (session_of e) (session_of e) refl)

made_other : (s : ℕ) (e : Event) (h : List Event) → session_of e ≢ s → made s (e ∷ h) ≡ made s h
unfolding made
made_other s e h n = cond-false _ _ _ (ne_eqb (session_of e) s n)

tries_begun : (e : Event) (h : List Event) → is_begin e ≡ true → tries (session_of e) (e ∷ h) ≡ tries (session_of e) h + 1
unfolding tries
tries_begun e h b = cond-true _ _ _ (and_from _ _ (eq-eqb (session_of e) (session_of e) refl) b)

tries_kept : (e : Event) (h : List Event) → is_begin e ≡ false → tries (session_of e) (e ∷ h) ≡ tries (session_of e) h
unfolding tries
tries_kept e h b = cond-false _ _ _ (and_right _ _ b)

tries_other : (s : ℕ) (e : Event) (h : List Event) → session_of e ≢ s → tries s (e ∷ h) ≡ tries s h
unfolding tries
tries_other s e h n = cond-false _ _ _ (and_left _ _ (ne_eqb (session_of e) s n))

-- an attempt that stands has room for what is left of it
record Counted (s : ℕ) (h : List Event) : Type 0 where
  active : is_active s h ≡ true → made s h + 101 ≤ 102 * tries s h + length (ops_of s h)
  idle : is_active s h ≡ false → made s h ≤ 102 * tries s h

ended : (e : Event) (h : List Event) → is_begin e ≡ false → is_active (session_of e) h ≡ true → is_active (session_of e) (e ∷ h) ≡ false → length (ops_of (session_of e) h) ≤ 100 → Counted (session_of e) h → Counted (session_of e) (e ∷ h)
ended e h b a i f k =
    let m = made_own e h in
    let t = tries_kept e h b in
    let z = k.active a in
    record { active = λ q. absurd (both_ways _ i q); idle = λ _. omega arith }

counted_own : (job : Calls) (form : LockForm) (e : Event) (h : List Event) → MayFollow job form h e → length (ops_of (session_of e) h) ≤ 100 → Counted (session_of e) h → Counted (session_of e) (e ∷ h)
counted_own job form (Begin s c a) h m f k =
    let n = made_own (Begin s c a) h in
    let t = tries_begun (Begin s c a) h refl in
    let z = k.idle m.idle in
    let i : is_active s (Begin s c a ∷ h) ≡ true = ap is_some (call_own s (Begin s c a) h refl) in
    record { active = λ _. omega arith; idle = λ q. absurd (both_ways _ q i) }
counted_own job form (Op s o) h m f k =
    let n = made_own (Op s o) h in
    let t = tries_kept (Op s o) h refl in
    let z = k.active m.active in
    let i : is_active s (Op s o ∷ h) ≡ true = ap is_some (call_own s (Op s o) h refl) ∙ m.active in
    let l : length (ops_of s (Op s o ∷ h)) ≡ length (ops_of s h) + 1 = ap length (ops_own s (Op s o) h refl) ∙ length-append (ops_of s h) (o ∷ []) in
    record { active = λ _. omega arith; idle = λ q. absurd (both_ways _ q i) }
counted_own job form (Die s o x) h m f k = ended (Die s o x) h refl m.active (ap is_some (call_own s (Die s o x) h refl)) f k
counted_own job form (End s d) h m f k = ended (End s d) h refl m.active (ap is_some (call_own s (End s d) h refl)) f k
counted_own job form (Drop s) h m f k = ended (Drop s) h refl m (ap is_some (call_own s (Drop s) h refl)) f k

counted_other : (s : ℕ) (e : Event) (h : List Event) → session_of e ≢ s → Counted s h → Counted s (e ∷ h)
counted_other s e h n k =
    let m = made_other s e h n in
    let t = tries_other s e h n in
    let a : is_active s (e ∷ h) ≡ is_active s h = ap is_some (call_other s e h n) in
    let l : length (ops_of s (e ∷ h)) ≡ length (ops_of s h) = ap length (ops_other s e h n) in
    record {
      active = λ q. let z = k.active (sym a ∙ q) in omega arith;
      idle = λ q. let z = k.idle (sym a ∙ q) in omega arith;
    }

counted : (Heap : Type 0) (M : Meaning Heap) → IsBounded M → (job : Calls) (form : LockForm) (T0 : Tables) (h : List Event) → IsLegal job form h → IsOwn M T0 h → (s : ℕ) → Counted s h
unfolding made tries call_of
counted Heap M b job form T0 [] l w s = record { active = λ q. absurd (both_ways _ refl q); idle = λ _. omega arith }
counted Heap M b job form T0 (e ∷ h) l w s = elim (cases_eq (session_of e) s) [
  | inl q ↦ subst (λ (t : ℕ). Counted t (e ∷ h)) q (counted_own job form e h l.0 (ops_few Heap M b T0 h w.1 (session_of e)) (counted Heap M b job form T0 h l.1 w.1 (session_of e)))
  | inr n ↦ counted_other s e h n (counted Heap M b job form T0 h l.1 w.1 s)
]

-- a session's events are at most 102 for each attempt that it began
pub events_few : (Heap : Type 0) (M : Meaning Heap) → IsBounded M → (job : Calls) (form : LockForm) (T0 : Tables) (h : List Event) → IsLegal job form h → IsOwn M T0 h → (s : ℕ) → made s h ≤ 102 * tries s h
events_few Heap M b job form T0 h l w s =
    let k = counted Heap M b job form T0 h l w s in
    let f = ops_few Heap M b T0 h w s in
    by_active (is_active s h) refl k f
  where
    by_active : (b : Bool) → is_active s h ≡ b → Counted s h → length (ops_of s h) ≤ 100 → made s h ≤ 102 * tries s h
    by_active true q k f = let z = k.active q in omega arith
    by_active false q k f = k.idle q
