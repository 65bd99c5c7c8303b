-- A session has one next event at most.
use Rattle.std.proofs.Common.{◌≡◌, ◌⊎◌, ℕ, ◌+◌, ◌<◌, ◌≤◌, true, false, ◌&&◌, List, [], ◌∷◌, Option, Some, refl, sym, ap, ◌∙◌, subst, arith, inl, inr}
use Rattle.std.proofs.lemmas.Bool.{both_ways, and_parts, and_from, and_right, cases_Bool, cond-true, cond-false}
use Rattle.px_value.specs.declared.statement.TableOp.{TableOp}
use Rattle.px_rows.specs.Tables.{Tables}
use Rattle.px_code.specs.declared.reply.Done.{Done}
use Rattle.px_history.specs.declared.event.Event.{Event}
use Rattle.px_history.specs.declared.event.Event.TheVariants.{Begin, Op as Does, Die, End as Ends, Drop}
use Rattle.px_history.specs.Attempts.{is_of, is_call, is_death, call_of, is_active, is_over, deaths, killer_of, killer_in, Killer}
use Rattle.px_history.specs.Legal.{Calls, IsOverFor, MustDie, IsLegal}
use Rattle.px_history.specs.Locking.{core_locks, clashes, wants_of, is_in_conflict}
use Rattle.px_history.specs.Serial.{Outcome, Asks, Ends as Ended, Meaning, outcome_of, EndedWith, prints_of}
use Rattle.px_history.proofs.Apart.{idle_ops}
use Rattle.px_history.proofs.Progress.{active_apart}
use Rattle.px_core.specs.Next.{IsNext, begins, does, dies, ends, IsHeld, by_lock, by_killer, Counts, counts_of, IsSingle}

-- who is in the way is active
conflict_active : (job : Calls) (h : List Event) → IsLegal job core_locks h → (s x : ℕ) (o : TableOp) → is_in_conflict core_locks h s o x ≡ true → is_active x h ≡ true
conflict_active job h l s x o k = elim (cases_Bool (is_active x h)) [
  | inl a ↦ a
  | inr i ↦ absurd (both_ways _ (and_right _ _ (ap (λ (os : List TableOp). clashes (wants_of core_locks os) (core_locks.wants o)) (idle_ops job core_locks h l x i))) k)
]

killer_at : (s c : ℕ) (e : Event) (h : List Event) (before : Option Killer) (k : Killer) → killer_in e h before ≡ Some k → (is_death e ≡ true) ⊎ (before ≡ Some k)
killer_at s c (Begin t b a) h before k q = inr q
killer_at s c (Does t o) h before k q = inr q
killer_at s c (Die t o x) h before k q = inl refl
killer_at s c (Ends t d) h before k q = inr q
killer_at s c (Drop t) h before k q = inr q

deaths_grow : (s c : ℕ) (e : Event) (h : List Event) → deaths s c h ≤ deaths s c (e ∷ h)
unfolding deaths
deaths_grow s c e h = elim (cases_Bool (is_of s e && is_death e && is_call c (call_of s h))) [
  | inl b ↦ let z : deaths s c (e ∷ h) ≡ deaths s c h + 1 = cond-true _ _ _ b in omega arith
  | inr b ↦ let z : deaths s c (e ∷ h) ≡ deaths s c h = cond-false _ _ _ b in omega arith
]

-- who was killed has died
killed_died : (s c : ℕ) (h : List Event) (k : Killer) → killer_of s c h ≡ Some k → 1 ≤ deaths s c h
unfolding killer_of deaths
killed_died s c [] k q = absurd cc
killed_died s c (e ∷ h) k q = elim (cases_Bool (is_of s e && is_call c (call_of s h))) [
  | inl b ↦
      let p = and_parts (is_of s e) (is_call c (call_of s h)) b in
      elim (killer_at s c e h (killer_of s c h) k (sym (cond-true _ _ _ b) ∙ q)) [
        | inl d ↦ let z : deaths s c (e ∷ h) ≡ deaths s c h + 1 = cond-true (is_of s e && is_death e && is_call c (call_of s h)) (deaths s c h + 1) (deaths s c h) (and_from _ _ (and_from _ _ p.0 d) p.1) in omega arith
        | inr r ↦ let z = killed_died s c h k r in let g = deaths_grow s c e h in omega arith
      ]
  | inr b ↦ let z = killed_died s c h k (sym (cond-false _ _ _ b) ∙ q) in let g = deaths_grow s c e h in omega arith
]

module _ (H : Type 0) (M : Meaning H) (job : Calls) (T0 : Tables) (h : List Event) (l : IsLegal job core_locks h) (counts : Counts) (s : ℕ) where
  -- the next call is one
  same_call : (c d : ℕ) → (1 ≤ c) → (1 ≤ d) → ((k : ℕ) → 1 ≤ k → k < c → is_over job.retries s k h ≡ true) → ((k : ℕ) → 1 ≤ k → k < d → is_over job.retries s k h ≡ true) → is_over job.retries s c h ≡ false → is_over job.retries s d h ≡ false → c ≡ d
  same_call c d p q ec ed oc od =
      let a : c < d → ⊥ = λ k. both_ways _ oc (ed c p k) in
      let b : d < c → ⊥ = λ k. both_ways _ od (ec d q k) in
      omega (arith, a, b)

  asks_one : (o o' : TableOp) → outcome_of M T0 s h ≡ Asks o → outcome_of M T0 s h ≡ Asks o' → o ≡ o'
  asks_one o o' p q = let r : ◌≡◌ {A = Outcome H} (Asks o) (Asks o') = sym p ∙ q in cc

  asks_or_ends : (o : TableOp) (done : Done) → outcome_of M T0 s h ≡ Asks o → EndedWith (outcome_of M T0 s h) done → ⊥
  asks_or_ends o done p e = let r : ◌≡◌ {A = Outcome H} (Asks o) (Ended done.reply e.prints e.heap) = sym p ∙ e.ended in cc

  same_done : (d d' : Done) → d.reply ≡ d'.reply → d.prints ≡ d'.prints → counts_of d ≡ counts_of d' → d ≡ d'
  same_done d d' r p c = λ i. record { reply = r i; prints = p i; part = (c i).part; avg = (c i).avg; moves = (c i).moves; bytes = (c i).bytes; rehome = (c i).rehome }

  done_one : (d d' : Done) → EndedWith (outcome_of M T0 s h) d → EndedWith (outcome_of M T0 s h) d' → counts_of d ≡ counts_of d' → d ≡ d'
  done_one d d' a b c =
      let r : ◌≡◌ {A = Outcome H} (Ended d.reply a.prints a.heap) (Ended d'.reply b.prints b.heap) = sym a.ended ∙ b.ended in
      let reply : d.reply ≡ d'.reply = cc in
      let prints : a.prints ≡ b.prints = cc in
      same_done d d' reply (a.shown ∙ ((λ i. prints_of (reply i) (prints i)) ∙ sym b.shown)) c

  same_holder : (x y : ℕ) (o : TableOp) → MustDie core_locks h s o x → MustDie core_locks h s o y → x ≡ y
  same_holder x y o m n =
      let a = m.least y n.holds in
      let b = n.least x m.holds in
      active_apart h x y (conflict_active job h l s x o m.holds) (conflict_active job h l s y o n.holds) (omega arith)

  pub one_next : (e e' : Event) → IsNext M job T0 counts h s e → IsNext M job T0 counts h s e' → e ≡ e'
  one_next e e' (begins c a m) (begins c' a' m') =
      let q : c ≡ c' = same_call c c' (m.listed).0 (m'.listed).0 m.earlier m'.earlier m.open_yet m'.open_yet in
      let r : a ≡ a' = m.counted ∙ (ap (λ (k : ℕ). deaths s k h + 1) q ∙ sym m'.counted) in
      λ i. Begin s (q i) (r i)
  one_next e e' (begins c a m) (does o p m') = absurd (both_ways _ m.idle m'.active)
  one_next e e' (begins c a m) (dies o x p m') = absurd (both_ways _ m.idle m'.active)
  one_next e e' (begins c a m) (ends d m' w n) = absurd (both_ways _ m.idle m'.active)
  one_next e e' (does o p m) (begins c a m') = absurd (both_ways _ m'.idle m.active)
  one_next e e' (does o p m) (does o' p' m') = ap (λ (x : TableOp). Does s x) (asks_one o o' p p')
  one_next e e' (does o p m) (dies o' x p' m') = absurd (both_ways _ (ap (λ (y : TableOp). is_in_conflict core_locks h s y x) (asks_one o' o p' p) ∙ m.free x) m'.holds)
  one_next e e' (does o p m) (ends d m' w n) = absurd (asks_or_ends o d p w)
  one_next e e' (dies o x p m) (begins c a m') = absurd (both_ways _ m'.idle m.active)
  one_next e e' (dies o x p m) (does o' p' m') = absurd (both_ways _ (ap (λ (y : TableOp). is_in_conflict core_locks h s y x) (asks_one o o' p p') ∙ m'.free x) m.holds)
  one_next e e' (dies o x p m) (dies o' x' p' m') =
      let q = asks_one o o' p p' in
      let n = subst (λ (y : TableOp). MustDie core_locks h s y x') (sym q) m' in
      let r = same_holder x x' o m n in
      λ i. Die s (q i) (r i)
  one_next e e' (dies o x p m) (ends d m' w n) = absurd (asks_or_ends o d p w)
  one_next e e' (ends d m w n) (begins c a m') = absurd (both_ways _ m'.idle m.active)
  one_next e e' (ends d m w n) (does o p m') = absurd (asks_or_ends o d p w)
  one_next e e' (ends d m w n) (dies o x p m') = absurd (asks_or_ends o d p w)
  one_next e e' (ends d m w n) (ends d' m' w' n') = ap (λ (y : Done). Ends s y) (done_one d d' w w' (n ∙ sym n'))

  pub none_held : (x : ℕ) (e : Event) → IsHeld M job T0 h s x → IsNext M job T0 counts h s e → ⊥
  none_held x e (by_lock o a p w) (begins c b m) = both_ways _ m.idle a
  none_held x e (by_lock o a p w) (does o' p' m) = both_ways _ (ap (λ (y : TableOp). is_in_conflict core_locks h s y x) (asks_one o o' p p') ∙ m.free x) w.holds
  none_held x e (by_lock o a p w) (dies o' y p' m) =
      let z = w.least y (ap (λ (q : TableOp). is_in_conflict core_locks h s q y) (asks_one o o' p p') ∙ m.holds) in
      let u = m.older in
      let v = w.younger in
      omega arith
  none_held x e (by_lock o a p w) (ends d m w' n) = asks_or_ends o d p w'
  none_held x e (by_killer c i u k) (begins c' a m) =
      let q : c' ≡ c = same_call c' c (m.listed).0 (u.listed).0 m.earlier u.earlier m.open_yet u.open_yet in
      let is : killer_of s c' h ≡ Some k.killer = ap (λ (d : ℕ). killer_of s d h) q ∙ k.is in
      let z = killed_died s c' h k.killer is in
      let n = m.counted in
      k.open_yet (subst (λ (o : Option Killer). IsOverFor job.retries o h) is (m.waited (omega arith)))
  none_held x e (by_killer c i u k) (does o' p' m) = both_ways _ i m.active
  none_held x e (by_killer c i u k) (dies o' y p' m) = both_ways _ i m.active
  none_held x e (by_killer c i u k) (ends d m w' n) = both_ways _ i m.active

pub single : (H : Type 0) (M : Meaning H) (job : Calls) (T0 : Tables) (h : List Event) → IsLegal job core_locks h → (counts : Counts) (s : ℕ) → IsSingle M job T0 counts h s
single H M job T0 h l counts s = record { one = one_next H M job T0 h l counts s; none = none_held H M job T0 h l counts s }
