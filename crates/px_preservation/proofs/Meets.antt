-- A run of the source ends as a run of the code does.
use Rattle.std.proofs.Common.{◌≡◌, sym, ap, subst}
use Rattle.px_value.specs.Outcome.{Outcome, Gives, Throws, Asks, Run, then_run}

-- where the code ends so, the source does, with related results and states
abbrev pub Meets : {Q S C A B : Type 0} → Outcome Q S A → Outcome Q C B → (A → S → B → C → Type 0) → (S → C → Type 0) → Type 0
Meets {Q} {S} {A = A} o (Gives b c) R T = (a : A) × (s : S) × (o ≡ Gives a s) × R a s b c
Meets {Q} {S} o (Throws t c) R T = (s : S) × (o ≡ Throws t s) × T s c
Meets {Q} {S} o (Asks q c) R T = (s : S) × (o ≡ Asks q s) × T s c

pub meets_bind : {Q S C A B A' B' : Type 0} (o : Outcome Q S A) (p : Outcome Q C B) (R : A → S → B → C → Type 0) (T : S → C → Type 0) (f : A → Run Q S A') (g : B → Run Q C B') (R' : A' → S → B' → C → Type 0) (T' : S → C → Type 0) → Meets o p R T → ((a : A) (s : S) (b : B) (c : C) → R a s b c → Meets (f a s) (g b c) R' T') → ((s : S) (c : C) → T s c → T' s c) → Meets (then_run o f) (then_run p g) R' T'
meets_bind o (Gives b c) R T f g R' T' m k u = subst (λ x. Meets (then_run x f) (g b c) R' T') (sym m.2) (k m.0 m.1 b c m.3)
meets_bind o (Throws t c) R T f g R' T' m k u = (m.0, ap (λ x. then_run x f) m.1, u m.0 c m.2)
meets_bind o (Asks q c) R T f g R' T' m k u = (m.0, ap (λ x. then_run x f) m.1, u m.0 c m.2)

-- more is known than is wanted
pub meets_more : {Q S C A B : Type 0} (o : Outcome Q S A) (p : Outcome Q C B) (R : A → S → B → C → Type 0) (T : S → C → Type 0) (R' : A → S → B → C → Type 0) (T' : S → C → Type 0) → Meets o p R T → ((a : A) (s : S) (b : B) (c : C) → R a s b c → R' a s b c) → ((s : S) (c : C) → T s c → T' s c) → Meets o p R' T'
meets_more o (Gives b c) R T R' T' m k u = (m.0, m.1, m.2, k m.0 m.1 b c m.3)
meets_more o (Throws t c) R T R' T' m k u = (m.0, m.1, u m.0 c m.2)
meets_more o (Asks q c) R T R' T' m k u = (m.0, m.1, u m.0 c m.2)

-- the same code in other words
pub meets_at : {Q S C A B : Type 0} (o : Outcome Q S A) (p q : Outcome Q C B) (R : A → S → B → C → Type 0) (T : S → C → Type 0) → p ≡ q → Meets o q R T → Meets o p R T
meets_at o p q R T e m = subst (λ x. Meets o x R T) (sym e) m

-- only the code goes on
pub meets_tail : {Q S C A B B' : Type 0} (o : Outcome Q S A) (p : Outcome Q C B) (R : A → S → B → C → Type 0) (T : S → C → Type 0) (g : B → Run Q C B') (R' : A → S → B' → C → Type 0) (T' : S → C → Type 0) → Meets o p R T → ((a : A) (s : S) (b : B) (c : C) → R a s b c → Meets (Gives a s) (g b c) R' T') → ((s : S) (c : C) → T s c → T' s c) → Meets o (then_run p g) R' T'
meets_tail o (Gives b c) R T g R' T' m k u = subst (λ x. Meets x (g b c) R' T') (sym m.2) (k m.0 m.1 b c m.3)
meets_tail o (Throws t c) R T g R' T' m k u = (m.0, m.1, u m.0 c m.2)
meets_tail o (Asks q c) R T g R' T' m k u = (m.0, m.1, u m.0 c m.2)

-- only the source goes on
pub meets_source : {Q S C A A' B : Type 0} (o : Outcome Q S A) (p : Outcome Q C B) (R : A → S → B → C → Type 0) (T : S → C → Type 0) (f : A → Run Q S A') (R' : A' → S → B → C → Type 0) (T' : S → C → Type 0) → Meets o p R T → ((a : A) (s : S) (b : B) (c : C) → R a s b c → Meets (f a s) (Gives b c) R' T') → ((s : S) (c : C) → T s c → T' s c) → Meets (then_run o f) p R' T'
meets_source o (Gives b c) R T f R' T' m k u = subst (λ x. Meets (then_run x f) (Gives b c) R' T') (sym m.2) (k m.0 m.1 b c m.3)
meets_source o (Throws t c) R T f R' T' m k u = (m.0, ap (λ x. then_run x f) m.1, u m.0 c m.2)
meets_source o (Asks q c) R T f R' T' m k u = (m.0, ap (λ x. then_run x f) m.1, u m.0 c m.2)
