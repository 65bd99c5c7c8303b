-- How many events all sessions together make.
use Rattle.std.proofs.Common.{◌≡◌, ◌≢◌, ℕ, zero, suc, ◌+◌, ◌*◌, ◌≤◌, All, List, [], ◌∷◌, length, refl, sym, ap, ◌∙◌, subst, arith, inl, inr}
use Rattle.std.proofs.Math.Nat.{add-mul}
use Rattle.std.proofs.lemmas.Bool.{cases_eq, cond-true, cond-false, eq-eqb, ne_eqb}
use Rattle.px_mean.specs.Serial.{Call}
use Rattle.px_history.specs.declared.event.Event.{Event}
use Rattle.px_history.specs.Attempts.{session_of}
use Rattle.px_history.specs.Moves.{made}
use Rattle.px_faithful.specs.Jobs.{calls_of}

-- of the sessions from 1 to a number
abbrev total : (ℕ → ℕ) → ℕ → ℕ
total f zero = 0
total f (suc n) = f (suc n) + total f n

total_same : (f g : ℕ → ℕ) (n : ℕ) → ((s : ℕ) → s ≤ n → g s ≡ f s) → total g n ≡ total f n
total_same f g zero q = refl
total_same f g (suc n) q = (λ i. q (suc n) (omega arith) i + total_same f g n (λ s l. q s (omega (arith, l))) i)

-- one of them grows
total_up : (f g : ℕ → ℕ) (d k n : ℕ) → 1 ≤ k → k ≤ n → g k ≡ f k + d → ((s : ℕ) → s ≢ k → g s ≡ f s) → total g n ≡ total f n + d
total_up f g d k zero l m q r = absurd (omega (arith, l, m))
total_up f g d k (suc n) l m q r = elim (cases_eq k (suc n)) [
  | inl w ↦
      let here : g (suc n) ≡ f (suc n) + d = subst (λ (j : ℕ). g j ≡ f j + d) w q in
      let rest = total_same f g n (λ s u. r s (λ z. omega (arith, u, w, z))) in
      omega (arith, here, rest)
  | inr w ↦
      let here = r (suc n) (λ z. w (sym z)) in
      let rest = total_up f g d k n l (omega (arith, m, w)) q r in
      omega (arith, here, rest)
]

total_le : (f g : ℕ → ℕ) (n : ℕ) → ((s : ℕ) → f s ≤ g s) → total f n ≤ total g n
total_le f g zero q = omega arith
total_le f g (suc n) q = let a = q (suc n) in let b = total_le f g n q in omega (arith, a, b)

total_none : (f : ℕ → ℕ) (n : ℕ) → ((s : ℕ) → f s ≡ 0) → total f n ≡ 0
total_none f zero q = refl
total_none f (suc n) q = let a = q (suc n) in let b = total_none f n q in omega (arith, a, b)

-- ---- events

made_own : (e : Event) (h : List Event) → made (session_of e) (e ∷ h) ≡ made (session_of e) h + 1
unfolding made
made_own e h = cond-true _ _ _ (eq-eqb (session_of e) (session_of e) refl)

made_other : (s : ℕ) (e : Event) (h : List Event) → session_of e ≢ s → made s (e ∷ h) ≡ made s h
unfolding made
made_other s e h n = cond-false _ _ _ (ne_eqb (session_of e) s n)

made_none : (s : ℕ) → made s [] ≡ 0
unfolding made
made_none s = refl

abbrev pub AreWithin : ℕ → List Event → Type 0
AreWithin n [] = Unit {0}
AreWithin n (e ∷ h) = ((1 ≤ session_of e) × (session_of e ≤ n)) × AreWithin n h

all_made : (n : ℕ) (h : List Event) → AreWithin n h → length h ≡ total (λ s. made s h) n
all_made n [] w = sym (total_none (λ s. made s []) n made_none)
all_made n (e ∷ h) w =
    let up = total_up (λ s. made s h) (λ s. made s (e ∷ h)) 1 (session_of e) n w.0.0 w.0.1 (made_own e h) (λ s q. made_other s e h (λ z. q (sym z))) in
    let rest = all_made n h w.1 in
    let one : length (e ∷ h) ≡ length h + 1 = omega arith in
    omega (arith, up, rest, one)

-- ---- calls

own_more : (c : Call) (cs : List Call) → length (calls_of c.session (c ∷ cs)) ≡ length (calls_of c.session cs) + 1
own_more c cs = ap length (cond-true _ _ _ (eq-eqb c.session c.session refl)) ∙ omega arith

other_same : (s : ℕ) (c : Call) (cs : List Call) → s ≢ c.session → length (calls_of s (c ∷ cs)) ≡ length (calls_of s cs)
other_same s c cs n = ap length (cond-false _ _ _ (ne_eqb c.session s (λ z. n (sym z))))

all_calls : (n r : ℕ) (calls : List Call) → All (λ c. (1 ≤ c.session) × (c.session ≤ n)) calls → total (λ s. 102 * (length (calls_of s calls) * r)) n ≡ 102 * (length calls * r)
all_calls n r [] a = total_none (λ s. 102 * (0 * r)) n (λ s. omega arith) ∙ omega arith
all_calls n r (c ∷ cs) a =
    let in_range = a 0 c (omega arith) in
    let f = λ (s : ℕ). 102 * (length (calls_of s cs) * r) in
    let g = λ (s : ℕ). 102 * (length (calls_of s (c ∷ cs)) * r) in
    let here : g c.session ≡ f c.session + 102 * r =
    (let m = add-mul (length (calls_of c.session cs)) 1 r in ap (λ (k : ℕ). 102 * (k * r)) (own_more c cs) ∙ omega (arith, m)) in
    let up = total_up f g (102 * r) c.session n in_range.0 in_range.1 here (λ s q. ap (λ (k : ℕ). 102 * (k * r)) (other_same s c cs q)) in
    let rest = all_calls n r cs (λ k d l. a (suc k) d (omega arith)) in
    let m = add-mul (length cs) 1 r in
    let long : length (c ∷ cs) ≡ length cs + 1 = omega arith in
    let last : length (c ∷ cs) * r ≡ (length cs + 1) * r = ap (λ (k : ℕ). k * r) long in
    omega (arith, up, rest, m, last)

-- where each session makes few events
pub few_in_all : (n r : ℕ) (calls : List Call) (h : List Event) → All (λ c. (1 ≤ c.session) × (c.session ≤ n)) calls → AreWithin n h → ((s : ℕ) → made s h ≤ 102 * (length (calls_of s calls) * r)) → length h ≤ 102 * (length calls * r)
few_in_all n r calls h a w few =
    let one = all_made n h w in
    let two = total_le (λ s. made s h) (λ s. 102 * (length (calls_of s calls) * r)) n few in
    let three = all_calls n r calls a in
    omega (arith, one, two, three)
