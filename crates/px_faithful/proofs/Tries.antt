-- How often a session's calls are tried, and how many events there are then.
use Rattle.std.proofs.Common.{◌≡◌, ◌≢◌, ℕ, ◌≤◌, ◌<◌, ◌+◌, ◌*◌, Bool, nat_le, true, false, ◌||◌, List, [], ◌∷◌, is_some, Option, Some, None, refl, sym, ap, ◌∙◌, subst, arith, inl, inr}
use Rattle.std.proofs.Math.Nat.{mul-le-mul_right, add-mul}
use Rattle.std.proofs.lemmas.Bool.{both_ways, cases_eq, cases_Bool, cond-true, cond-false, eq-eqb, ne_eqb, and_left, and_right, and_from, or_left, or_right, or_from, le-leb, leb-true, false_from_ne_true}
use Rattle.px_value.specs.declared.statement.TableOp.{TableOp}
use Rattle.px_code.specs.declared.reply.Done.{Done}
use Rattle.px_history.specs.declared.event.Event.{Event}
use Rattle.px_history.specs.declared.event.Event.TheVariants.{Begin, Op, Die, End, Drop}
use Rattle.px_history.specs.Attempts.{session_of, is_call, is_death, is_end, call_of, is_active, deaths, has_ended, is_over}
use Rattle.px_history.specs.Locking.{LockForm}
use Rattle.px_history.specs.Legal.{Calls, MayBegin, MayFollow, IsLegal}
use Rattle.px_history.specs.Moves.{tries, is_begin}
use Rattle.px_history.proofs.Apart.{call_own, call_other}
use Rattle.px_faithful.specs.Drops.{is_drop, dropped}

-- ---- deaths and ends of a call

deaths_plain : (s c : ℕ) (e : Event) (h : List Event) → is_death e ≡ false → deaths s c (e ∷ h) ≡ deaths s c h
unfolding deaths
deaths_plain s c e h q = cond-false _ _ _ (and_left _ _ (and_right _ _ q))

deaths_other : (s c : ℕ) (e : Event) (h : List Event) → session_of e ≢ s → deaths s c (e ∷ h) ≡ deaths s c h
unfolding deaths
deaths_other s c e h n = cond-false _ _ _ (and_left _ _ (and_left _ _ (ne_eqb (session_of e) s n)))

deaths_else : (s c : ℕ) (e : Event) (h : List Event) → is_call c (call_of s h) ≡ false → deaths s c (e ∷ h) ≡ deaths s c h
unfolding deaths
deaths_else s c e h q = cond-false _ _ _ (and_right _ _ q)

deaths_one : (s c : ℕ) (o : TableOp) (x : ℕ) (h : List Event) → is_call c (call_of s h) ≡ true → deaths s c (Die s o x ∷ h) ≡ deaths s c h + 1
unfolding deaths
deaths_one s c o x h q = cond-true _ _ _ (and_from _ _ (and_from _ _ (eq-eqb s s refl) refl) q)

ended_plain : (s c : ℕ) (e : Event) (h : List Event) → is_end e ≡ false → has_ended s c (e ∷ h) ≡ has_ended s c h
unfolding has_ended
ended_plain s c e h q = ap (λ (b : Bool). b || has_ended s c h) (and_left _ _ (and_right _ _ q))

ended_other : (s c : ℕ) (e : Event) (h : List Event) → session_of e ≢ s → has_ended s c (e ∷ h) ≡ has_ended s c h
unfolding has_ended
ended_other s c e h n = ap (λ (b : Bool). b || has_ended s c h) (and_left _ _ (and_left _ _ (ne_eqb (session_of e) s n)))

ended_else : (s c : ℕ) (e : Event) (h : List Event) → is_call c (call_of s h) ≡ false → has_ended s c (e ∷ h) ≡ has_ended s c h
unfolding has_ended
ended_else s c e h q = ap (λ (b : Bool). b || has_ended s c h) (and_right _ _ q)

ended_now : (s c : ℕ) (d : Done) (h : List Event) → is_call c (call_of s h) ≡ true → has_ended s c (End s d ∷ h) ≡ true
unfolding has_ended
ended_now s c d h q = or_left _ _ (and_from _ _ (and_from _ _ (eq-eqb s s refl) refl) q)

over_same : (retries s c : ℕ) (h h' : List Event) → deaths s c h' ≡ deaths s c h → has_ended s c h' ≡ has_ended s c h → is_over retries s c h' ≡ is_over retries s c h
over_same retries s c h h' d e = λ i. e i || nat_le (retries + 1) (d i)

-- ---- attempts

tries_begun : (s c a : ℕ) (h : List Event) → tries s (Begin s c a ∷ h) ≡ tries s h + 1
unfolding tries
tries_begun s c a h = cond-true _ _ _ (and_from _ _ (eq-eqb s s refl) refl)

tries_plain : (s : ℕ) (e : Event) (h : List Event) → is_begin e ≡ false → tries s (e ∷ h) ≡ tries s h
unfolding tries
tries_plain s e h b = cond-false _ _ _ (and_right _ _ b)

tries_other : (s : ℕ) (e : Event) (h : List Event) → session_of e ≢ s → tries s (e ∷ h) ≡ tries s h
unfolding tries
tries_other s e h n = cond-false _ _ _ (and_left _ _ (ne_eqb (session_of e) s n))

-- p calls are over, and the next one was tried once for each death, and once more while it is open
record Tried (job : Calls) (s : ℕ) (h : List Event) (p : ℕ) : Type 0 where
  listed : p ≤ job.calls s
  earlier : (d : ℕ) → 1 ≤ d → d < p + 1 → is_over job.retries s d h ≡ true
  open_yet : has_ended s (p + 1) h ≡ false
  few : deaths s (p + 1) h ≤ job.retries
  later : (d : ℕ) → p + 1 < d → (deaths s d h ≡ 0) × (has_ended s d h ≡ false)
  last : job.calls s ≤ p → deaths s (p + 1) h ≡ 0
  call : (d : ℕ) → call_of s h ≡ Some d → d ≡ p + 1
  within : is_active s h ≡ true → p + 1 ≤ job.calls s
  active : is_active s h ≡ true → tries s h ≤ p * (job.retries + 1) + deaths s (p + 1) h + 1
  idle : is_active s h ≡ false → tries s h ≤ p * (job.retries + 1) + deaths s (p + 1) h

not_over : (r k : ℕ) → k ≤ r → nat_le (r + 1) k ≡ false
not_over r k f = false_from_ne_true _ (λ b. let z = leb-true (r + 1) k b in absurd (omega arith))

over_now : (r k : ℕ) → r ≤ k → nat_le (r + 1) (k + 1) ≡ true
over_now r k f = le-leb (r + 1) (k + 1) (omega arith)

some_is : (c d : ℕ) → ◌≡◌ {A = Option ℕ} (Some c) (Some d) → c ≡ d
some_is c d q = cc

none_is : (c : ℕ) → ◌≡◌ {A = Option ℕ} None (Some c) → ⊥
none_is c q = cc

the_call : (o : Option ℕ) (p : ℕ) → is_some o ≡ true → ((d : ℕ) → o ≡ Some d → d ≡ p + 1) → o ≡ Some (p + 1)
the_call None p a k = absurd (both_ways _ refl a)
the_call (Some d) p a k = ap Some (k d refl)

module _ (job : Calls) (form : LockForm) (s : ℕ) (h : List Event) where
  tried_begin : (c a : ℕ) → MayBegin job h s c a → (p : ℕ) → Tried job s h p → Tried job s (Begin s c a ∷ h) p
  tried_begin c a m p t =
      let before : c < p + 1 → ⊥ = λ k. both_ways _ m.open_yet (t.earlier c (m.listed).0 k) in
      let after : p + 1 < c → ⊥ = λ k. both_ways _ (or_from _ _ t.open_yet (not_over job.retries _ t.few)) (m.earlier (p + 1) (omega arith) k) in
      let is : c ≡ p + 1 = omega (arith, before, after) in
      let now : call_of s (Begin s c a ∷ h) ≡ Some c = call_own s (Begin s c a) h refl in
      let z = t.idle m.idle in
      let n = tries_begun s c a h in
      let l = m.listed in
      let ds = deaths_plain s (p + 1) (Begin s c a) h refl in
      record {
        listed = t.listed;
        earlier = λ d u v. over_same job.retries s d h _ (deaths_plain s d (Begin s c a) h refl) (ended_plain s d (Begin s c a) h refl) ∙ t.earlier d u v;
        open_yet = ended_plain s (p + 1) (Begin s c a) h refl ∙ t.open_yet;
        few = (let f = t.few in omega arith);
        later = λ d u. (deaths_plain s d (Begin s c a) h refl ∙ (t.later d u).0, ended_plain s d (Begin s c a) h refl ∙ (t.later d u).1);
        last = λ u. ds ∙ t.last u;
        call = λ d q. some_is d c (sym q ∙ now) ∙ is;
        within = λ _. omega arith;
        active = λ _. omega arith;
        idle = λ q. absurd (both_ways _ q (ap is_some now));
      }

  -- an event that neither begins nor ends an attempt, or is another session's
  tried_still : (e : Event) → call_of s (e ∷ h) ≡ call_of s h → tries s (e ∷ h) ≡ tries s h → ((d : ℕ) → deaths s d (e ∷ h) ≡ deaths s d h) → ((d : ℕ) → has_ended s d (e ∷ h) ≡ has_ended s d h) → (p : ℕ) → Tried job s h p → Tried job s (e ∷ h) p
  tried_still e same n ds es p t =
      let dp = ds (p + 1) in
      record {
        listed = t.listed;
        earlier = λ d u v. over_same job.retries s d h _ (ds d) (es d) ∙ t.earlier d u v;
        open_yet = es (p + 1) ∙ t.open_yet;
        few = (let f = t.few in omega arith);
        later = λ d u. (ds d ∙ (t.later d u).0, es d ∙ (t.later d u).1);
        last = λ u. dp ∙ t.last u;
        call = λ d q. t.call d (sym same ∙ q);
        within = λ a. t.within (sym (ap is_some same) ∙ a);
        active = λ a. let z = t.active (sym (ap is_some same) ∙ a) in omega arith;
        idle = λ a. let z = t.idle (sym (ap is_some same) ∙ a) in omega arith;
      }

  -- the call is over
  tried_over : (e : Event) → is_active s h ≡ true → call_of s (e ∷ h) ≡ None → tries s (e ∷ h) ≡ tries s h → (p : ℕ) → Tried job s h p → is_over job.retries s (p + 1) (e ∷ h) ≡ true
      → ((d : ℕ) → d ≢ p + 1 → deaths s d (e ∷ h) ≡ deaths s d h) → ((d : ℕ) → d ≢ p + 1 → has_ended s d (e ∷ h) ≡ has_ended s d h) → Tried job s (e ∷ h) (p + 1)
  tried_over e a now n p t over ds es =
      let next = t.later (p + 1 + 1) (omega arith) in
      let nd : deaths s (p + 1 + 1) (e ∷ h) ≡ 0 = ds (p + 1 + 1) (λ q. omega (arith, q)) ∙ next.0 in
      let z = t.active a in
      let f = t.few in
      let m : (p + 1) * (job.retries + 1) ≡ p * (job.retries + 1) + 1 * (job.retries + 1) = add-mul p 1 (job.retries + 1) in
      record {
        listed = t.within a;
        earlier = λ d u v. elim (cases_eq d (p + 1)) [
          | inl q ↦ subst (λ (k : ℕ). is_over job.retries s k (e ∷ h) ≡ true) (sym q) over
          | inr w ↦ over_same job.retries s d h _ (ds d w) (es d w) ∙ t.earlier d u (omega (arith, w))
        ];
        open_yet = es (p + 1 + 1) (λ q. omega (arith, q)) ∙ next.1;
        few = omega arith;
        later = λ d u. let w : d ≢ p + 1 = λ q. omega (arith, q) in (ds d w ∙ (t.later d (omega arith)).0, es d w ∙ (t.later d (omega arith)).1);
        last = λ u. nd;
        call = λ d q. absurd (none_is d (sym now ∙ q));
        within = λ b. absurd (both_ways _ (ap is_some now) b);
        active = λ b. absurd (both_ways _ (ap is_some now) b);
        idle = λ _. omega arith;
      }

  -- it died, and may be tried again
  tried_again : (e : Event) → is_active s h ≡ true → call_of s (e ∷ h) ≡ None → tries s (e ∷ h) ≡ tries s h → (p : ℕ) → Tried job s h p → deaths s (p + 1) h < job.retries → deaths s (p + 1) (e ∷ h) ≡ deaths s (p + 1) h + 1
      → ((d : ℕ) → d ≢ p + 1 → deaths s d (e ∷ h) ≡ deaths s d h) → ((d : ℕ) → has_ended s d (e ∷ h) ≡ has_ended s d h) → Tried job s (e ∷ h) p
  tried_again e a now n p t few one ds es =
      let z = t.active a in
      let w = t.within a in
      record {
        listed = t.listed;
        earlier = λ d u v. over_same job.retries s d h _ (ds d (λ q. omega (arith, q))) (es d) ∙ t.earlier d u v;
        open_yet = es (p + 1) ∙ t.open_yet;
        few = omega arith;
        later = λ d u. (ds d (λ q. omega (arith, q)) ∙ (t.later d u).0, es d ∙ (t.later d u).1);
        last = λ u. absurd (omega arith);
        call = λ d q. absurd (none_is d (sym now ∙ q));
        within = λ b. absurd (both_ways _ (ap is_some now) b);
        active = λ b. absurd (both_ways _ (ap is_some now) b);
        idle = λ _. omega arith;
      }

  in_call : (p d : ℕ) → call_of s h ≡ Some (p + 1) → d ≢ p + 1 → is_call d (call_of s h) ≡ false
  in_call p d q n = ap (is_call d) q ∙ ne_eqb d (p + 1) n

  this_call : (p : ℕ) → call_of s h ≡ Some (p + 1) → is_call (p + 1) (call_of s h) ≡ true
  this_call p q = ap (is_call (p + 1)) q ∙ eq-eqb (p + 1) (p + 1) refl

tried_own : (job : Calls) (form : LockForm) (e : Event) (h : List Event) → MayFollow job form h e → is_drop e ≡ false → (p : ℕ) → Tried job (session_of e) h p → (q : ℕ) × Tried job (session_of e) (e ∷ h) q
tried_own job form (Begin s c a) h m k p t = (p, tried_begin job form s h c a m p t)
tried_own job form (Op s o) h m k p t = (p, tried_still job form s h (Op s o) (call_own s (Op s o) h refl) (tries_plain s (Op s o) h refl) (λ d. deaths_plain s d (Op s o) h refl) (λ d. ended_plain s d (Op s o) h refl) p t)
tried_own job form (Die s o x) h m k p t =
    let q = the_call (call_of s h) p m.active t.call in
    let one = deaths_one s (p + 1) o x h (this_call job form s h p q) in
    let ds : (d : ℕ) → d ≢ p + 1 → deaths s d (Die s o x ∷ h) ≡ deaths s d h = λ d n. deaths_else s d (Die s o x) h (in_call job form s h p d q n) in
    let es : (d : ℕ) → has_ended s d (Die s o x ∷ h) ≡ has_ended s d h = λ d. ended_plain s d (Die s o x) h refl in
    elim (cases_Bool (nat_le (deaths s (p + 1) h + 1) job.retries)) [
      | inl b ↦ (p, tried_again job form s h (Die s o x) m.active (call_own s (Die s o x) h refl) (tries_plain s (Die s o x) h refl) p t (let z = leb-true (deaths s (p + 1) h + 1) job.retries b in omega arith) one ds es)
      | inr b ↦
          let z : deaths s (p + 1) h + 1 ≤ job.retries → ⊥ = λ l. both_ways _ b (le-leb (deaths s (p + 1) h + 1) job.retries l) in (
            p + 1,
            tried_over job form s h (Die s o x) m.active (call_own s (Die s o x) h refl) (tries_plain s (Die s o x) h refl) p t
                (or_right _ _ (ap (nat_le (job.retries + 1)) one ∙ over_now job.retries (deaths s (p + 1) h) (omega (arith, z)))) ds (λ d _. es d),
          )
    ]
tried_own job form (End s x) h m k p t =
    let q = the_call (call_of s h) p m.active t.call in (
      p + 1,
      tried_over job form s h (End s x) m.active (call_own s (End s x) h refl) (tries_plain s (End s x) h refl) p t
          (or_left _ _ (ended_now s (p + 1) x h (this_call job form s h p q))) (λ d _. deaths_plain s d (End s x) h refl) (λ d n. ended_else s d (End s x) h (in_call job form s h p d q n)),
    )
tried_own job form (Drop s) h m k p t = absurd (both_ways _ k refl)

drop_own : (e : Event) (h : List Event) → dropped (session_of e) (e ∷ h) ≡ false → is_drop e ≡ false
unfolding dropped
drop_own e h w = elim (cases_Bool (is_drop e)) [
  | inl b ↦ absurd (both_ways _ w (or_left _ _ (and_from _ _ (eq-eqb (session_of e) (session_of e) refl) b)))
  | inr b ↦ b
]

drop_less : (s : ℕ) (e : Event) (h : List Event) → dropped s (e ∷ h) ≡ false → dropped s h ≡ false
unfolding dropped
drop_less s e h w = elim (cases_Bool (dropped s h)) [
  | inl b ↦ absurd (both_ways _ w (or_right _ _ b))
  | inr b ↦ b
]

tried_start : (job : Calls) (s : ℕ) → Tried job s [] 0
unfolding deaths has_ended call_of tries
tried_start job s = record {
  listed = omega arith;
  earlier = λ d u v. absurd (omega arith);
  open_yet = refl;
  few = omega arith;
  later = λ d u. (refl, refl);
  last = λ u. refl;
  call = λ d q. absurd (none_is d q);
  within = λ a. absurd (both_ways _ refl a);
  active = λ a. absurd (both_ways _ refl a);
  idle = λ a. omega arith;
}

tried : (job : Calls) (form : LockForm) (h : List Event) → IsLegal job form h → (s : ℕ) → dropped s h ≡ false → (p : ℕ) × Tried job s h p
tried job form [] l s w = (0, tried_start job s)
tried job form (e ∷ h) l s w =
    let before = tried job form h l.1 s (drop_less s e h w) in
    elim (cases_eq (session_of e) s) [
      | inl q ↦ subst (λ (t : ℕ). dropped t (e ∷ h) ≡ false → (p : ℕ) → Tried job t h p → (r : ℕ) × Tried job t (e ∷ h) r) q (λ d p t. tried_own job form e h l.0 (drop_own e h d) p t) w before.0 before.1
      | inr n ↦ (before.0, tried_still job form s h e (call_other s e h n) (tries_other s e h n) (λ d. deaths_other s d e h n) (λ d. ended_other s d e h n) before.0 before.1)
    ]

-- a session's attempts are at most its calls, each as often as it may be tried
pub tries_few : (job : Calls) (form : LockForm) (h : List Event) → IsLegal job form h → (s : ℕ) → dropped s h ≡ false → tries s h ≤ job.calls s * (job.retries + 1)
tries_few job form h l s w = by (tried job form h l s w).0 (tried job form h l s w).1
  where
    more : (p : ℕ) → p + 1 ≤ job.calls s → p * (job.retries + 1) + (job.retries + 1) ≤ job.calls s * (job.retries + 1)
    more p u = let z = mul-le-mul_right (job.retries + 1) u in let m : (p + 1) * (job.retries + 1) ≡ p * (job.retries + 1) + 1 * (job.retries + 1) = add-mul p 1 (job.retries + 1) in omega arith

    by : (p : ℕ) → Tried job s h p → tries s h ≤ job.calls s * (job.retries + 1)
    by p t = elim (cases_Bool (is_active s h)) [
      | inl a ↦ let z = t.active a in let f = t.few in let y = more p (t.within a) in omega arith
      | inr a ↦
          let z = t.idle a in
          let f = t.few in
          elim (cases_Bool (nat_le (p + 1) (job.calls s))) [
            | inl b ↦ let y = more p (leb-true (p + 1) (job.calls s) b) in omega arith
            | inr b ↦
                let n : p + 1 ≤ job.calls s → ⊥ = λ k. both_ways _ b (le-leb (p + 1) (job.calls s) k) in
                let d = t.last (omega (arith, n)) in
                let y = mul-le-mul_right (job.retries + 1) t.listed in
                omega arith
          ]
    ]
