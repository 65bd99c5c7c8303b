-- The search finds the oldest of the grants against the wants.
use Rattle.std.proofs.Common.{◌≡◌, ◌⊎◌, ℕ, ◌≤◌, true, false, nat_lt, List, [], ◌∷◌, Option, Some, None, refl, sym, ap, subst, arith, inl, inr}
use Rattle.std.proofs.lemmas.Bool.{ltb-true, ltb-false, or_cases, or_left, or_right, both_ways, cases_Bool, cond-true, cond-false, false_from_ne_true}
use Rattle.px_locks.specs.declared.want.Want.{Want}
use Rattle.px_locks.specs.declared.want.Grant.{Grant}
use Rattle.px_locks.specs.Locks.{is_against, is_against_any, older, oldest_at, oldest_from, IsIn, IsFree, IsOldest}

-- the oldest of those of which C holds, or none where it holds of none
abbrev Best : (Grant → Type 0) → Option Grant → Type 0
Best C None = (x : Grant) → C x → ⊥
Best C (Some g) = C g × ((x : Grant) → C x → g.stamp ≤ x.stamp)

best_same : (C D : Grant → Type 0) → ((x : Grant) → C x → D x) → ((x : Grant) → D x → C x) → (o : Option Grant) → Best C o → Best D o
best_same C D to from None b = λ x d. b x (from x d)
best_same C D to from (Some g) b = (to g b.0, λ x d. b.1 x (from x d))

best_older : (C : Grant → Type 0) (best : Option Grant) (y : Grant) → Best C best → Best (λ x. C x ⊎ (y ≡ x)) (older best y)
best_older C None y b = (inr refl, λ x c. elim c [ inl a ↦ absurd (b x a) | inr u ↦ let z : y.stamp ≡ x.stamp = ap (λ (g : Grant). g.stamp) u in omega arith ])
best_older C (Some g) y b = elim (cases_Bool (nat_lt y.stamp g.stamp)) [
  | inl q ↦
      let less = ltb-true y.stamp g.stamp q in
      subst (Best (λ x. C x ⊎ (y ≡ x))) (sym (cond-true _ _ _ q)) (
        inr refl,
        λ x c. elim c [
          | inl a ↦ let z = b.1 x a in omega arith
          | inr u ↦ let z : y.stamp ≡ x.stamp = ap (λ (g : Grant). g.stamp) u in omega arith
        ],
      )
  | inr q ↦
      let more = ltb-false y.stamp g.stamp q in
      subst (Best (λ x. C x ⊎ (y ≡ x))) (sym (cond-false _ _ _ q)) (
        inl b.0,
        λ x c. elim c [
          | inl a ↦ b.1 x a
          | inr u ↦ let z : y.stamp ≡ x.stamp = ap (λ (g : Grant). g.stamp) u in omega arith
        ],
      )
]

abbrev With : (Grant → Type 0) → ℕ → Want → List Grant → Grant → Type 0
With C s w gs x = C x ⊎ (IsIn x gs × (is_against s w x ≡ true))

best_at : (s : ℕ) (w : Want) (C : Grant → Type 0) (best : Option Grant) (gs : List Grant) → Best C best → Best (With C s w gs) (oldest_at s w best gs)
best_at s w C best [] b = best_same C (With C s w []) (λ x c. inl c) (λ x d. elim d [ inl c ↦ c | inr p ↦ absurd p.0 ]) best b
best_at s w C best (y ∷ gs) b = elim (cases_Bool (is_against s w y)) [
  | inl q ↦
      let D : Grant → Type 0 = λ x. C x ⊎ (y ≡ x) in
      let r = best_at s w D (older best y) gs (best_older C best y b) in
      subst (λ (o : Option Grant). Best (With C s w (y ∷ gs)) (oldest_at s w o gs)) (sym (cond-true _ _ _ q)) (best_same (With D s w gs) (With C s w (y ∷ gs))
      (λ x d. elim d [
        | inl e ↦ elim e [ inl c ↦ inl c | inr u ↦ inr (inl u, subst (λ (g : Grant). is_against s w g ≡ true) u q) ]
        | inr p ↦ inr (inr p.0, p.1)
      ])
      (λ x d. elim d [
        | inl c ↦ inl (inl c)
        | inr p ↦ elim p.0 [ inl u ↦ inl (inr u) | inr v ↦ inr (v, p.1) ]
      ])
      (oldest_at s w (older best y) gs) r)
  | inr q ↦
      let r = best_at s w C best gs b in
      subst (λ (o : Option Grant). Best (With C s w (y ∷ gs)) (oldest_at s w o gs)) (sym (cond-false _ _ _ q)) (best_same (With C s w gs) (With C s w (y ∷ gs))
      (λ x d. elim d [ inl c ↦ inl c | inr p ↦ inr (inr p.0, p.1) ])
      (λ x d. elim d [
        | inl c ↦ inl c
        | inr p ↦ elim p.0 [ inl u ↦ absurd (both_ways _ (subst (λ (g : Grant). is_against s w g ≡ false) u q) p.1) | inr v ↦ inr (v, p.1) ]
      ])
      (oldest_at s w best gs) r)
]

abbrev WithAny : (Grant → Type 0) → ℕ → List Want → List Grant → Grant → Type 0
WithAny C s ws gs x = C x ⊎ (IsIn x gs × (is_against_any s ws x ≡ true))

best_from : (s : ℕ) (ws : List Want) (C : Grant → Type 0) (best : Option Grant) (gs : List Grant) → Best C best → Best (WithAny C s ws gs) (oldest_from s ws best gs)
best_from s [] C best gs b = best_same C (WithAny C s [] gs) (λ x c. inl c) (λ x d. elim d [ inl c ↦ c | inr p ↦ absurd (both_ways _ refl p.1) ]) best b
best_from s (w ∷ ws) C best gs b =
    best_same (WithAny (With C s w gs) s ws gs) (WithAny C s (w ∷ ws) gs)
    (λ x d. elim d [
      | inl e ↦ elim e [ inl c ↦ inl c | inr p ↦ inr (p.0, or_left _ _ p.1) ]
      | inr p ↦ inr (p.0, or_right _ _ p.1)
    ])
    (λ x d. elim d [
      | inl c ↦ inl (inl c)
      | inr p ↦ elim (or_cases _ _ p.1) [ inl a ↦ inl (inr (p.0, a)) | inr k ↦ inr (p.0, k) ]
    ])
    (oldest_from s (w ∷ ws) best gs)
    (best_from s ws (With C s w gs) (oldest_at s w best gs) gs (best_at s w C best gs b))

abbrev Never : Grant → Type 0
Never g = ⊥

all_best : (s : ℕ) (ws : List Want) (gs : List Grant) → Best (WithAny Never s ws gs) (oldest_from s ws None gs)
all_best s ws gs = best_from s ws Never None gs (λ x c. c)

pub free : (s : ℕ) (ws : List Want) (gs : List Grant) → oldest_from s ws None gs ≡ None → IsFree gs s ws
free s ws gs h g i = false_from_ne_true _ (λ a. subst (Best (WithAny Never s ws gs)) h (all_best s ws gs) g (inr (i, a)))

pub oldest : (s : ℕ) (ws : List Want) (gs : List Grant) (g : Grant) → oldest_from s ws None gs ≡ Some g → IsOldest gs s ws g.session g
oldest s ws gs g h =
    let b = subst (Best (WithAny Never s ws gs)) h (all_best s ws gs) in
    elim b.0 [
      | inl c ↦ absurd c
      | inr p ↦ record { stands = p.0; of_holder = refl; against = p.1; least = λ x i a. b.1 x (inr (i, a)) }
    ]
