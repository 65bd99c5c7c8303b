-- Runs beside the same runs on a list: what one asks, the other does, and where all is answered alike they end alike.
use Rattle.std.proofs.Common.{◌≡◌, ℕ, ◌+◌, ◌≤◌, List, [], ◌∷◌, ◌++◌, length, length-append, append_assoc, Result, Ok, Err, refl, sym, ap, ◌∙◌, subst, arith}
use Rattle.px_value.specs.declared.thrown.Thrown.{Thrown}
use Rattle.px_value.specs.declared.statement.TableOp.{TableOp}
use Rattle.px_value.specs.declared.answer.Answer.{Answer}
use Rattle.px_value.specs.Outcome.{Outcome, Gives, Throws, Asks, Run, then_run, ◌>>=◌, pure, throw, Flow, Goes, Returns, goes_on, in_order}
use Rattle.px_mean.specs.Run.{gather, came_to}
use Rattle.px_mean.specs.Operations.{Ask}
use Rattle.px_mean.specs.Laws.{AsksInOrder}

-- ---- what is asked in order

module _ (S T A B : Type 0) where
  pub asked_by : (run : List Answer → Outcome TableOp S A) (run' : List Answer → Outcome TableOp T B) (os : List TableOp) (xs : List Answer) → ((x : List Answer) (o : TableOp) (s : S) → run x ≡ Asks o s → (t : T) × (run' x ≡ Asks o t)) → AsksInOrder run os xs → AsksInOrder run' os xs
  asked_by run run' [] [] k h = tt
  asked_by run run' (o ∷ os) (a ∷ xs) k h = (k [] o h.0.0 h.0.1, asked_by (λ more. run (a ∷ more)) (λ more. run' (a ∷ more)) os xs (λ x. k (a ∷ x)) h.1)
  asked_by run run' [] (a ∷ xs) k h = h
  asked_by run run' (o ∷ os) [] k h = h

module _ (S A : Type 0) where
  pub asked_then : (run run' : List Answer → Outcome TableOp S A) (os : List TableOp) (xs : List Answer) (os' : List TableOp) (xs' : List Answer) → AsksInOrder run os xs → ((more : List Answer) → run (xs ++ more) ≡ run' more) → AsksInOrder run' os' xs' → AsksInOrder run (os ++ os') (xs ++ xs')
  asked_then run run' [] [] os' xs' h k h' = asked_by S S A A run' run os' xs' (λ x o s e. (s, k x ∙ e)) h'
  asked_then run run' (o ∷ os) (a ∷ xs) os' xs' h k h' = (h.0, asked_then (λ more. run (a ∷ more)) run' os xs os' xs' h.1 k h')
  asked_then run run' [] (a ∷ xs) os' xs' h k h' = absurd h
  asked_then run run' (o ∷ os) [] os' xs' h k h' = absurd h

module _ (Q W : Type 0) (ask : Ask Q W) where
  -- these answers are told to these operations
  abbrev pub Told : List TableOp → List Answer → W → W → Type 0
  Told [] [] from to = from ≡ to
  Told (o ∷ os) (a ∷ xs) from to = (w : W) × (ask o from ≡ Gives a w) × Told os xs w to
  Told _ _ from to = ⊥

  told_then : (os : List TableOp) (xs : List Answer) (os' : List TableOp) (xs' : List Answer) (from mid to : W) → Told os xs from mid → Told os' xs' mid to → Told (os ++ os') (xs ++ xs') from to
  told_then [] [] os' xs' from mid to h k = subst (λ (w : W). Told os' xs' w to) (sym h) k
  told_then (o ∷ os) (a ∷ xs) os' xs' from mid to h k = (h.0, h.1, told_then os xs os' xs' h.0 mid to h.2 k)
  told_then [] (a ∷ xs) os' xs' from mid to h k = absurd h
  told_then (o ∷ os) [] os' xs' from mid to h k = absurd h

  -- ---- how far a run on a list goes

  -- it asks what is told, and with these answers it is at this end
  pub record Reaches (S A : Type 0) (from to : W) (before after : ℕ) (run end : List Answer → Outcome TableOp S A) : Type 0 where
    pub operations : List TableOp
    pub answers : List Answer
    pub told : Told operations answers from to
    pub asked : AsksInOrder run operations answers
    pub reached : (more : List Answer) → run (answers ++ more) ≡ end more
    pub counted : after ≡ length answers + before
    pub few : before ≤ 100 → after ≤ 100

  -- it asks what is told, and then this, which isn't, at this state
  pub record Opens (S A : Type 0) (from to : W) (before after : ℕ) (q : Q) (run : List Answer → Outcome TableOp S A) (end : S) : Type 0 where
    pub operations : List TableOp
    pub answers : List Answer
    pub mid : W
    pub operation : TableOp
    pub told : Told operations answers from mid
    pub asked : AsksInOrder run operations answers
    pub untold : ask operation mid ≡ Asks q to
    pub stops : run answers ≡ Asks operation end
    pub counted : after ≡ length answers + before + 1
    pub few : before ≤ 100 → after ≤ 100

  pub reaches_now : (S A : Type 0) (w : W) (n : ℕ) (run end : List Answer → Outcome TableOp S A) → ((more : List Answer) → run more ≡ end more) → Reaches S A w w n n run end
  reaches_now S A w n run end h = record { operations = []; answers = []; told = refl; asked = tt; reached = h; counted = omega (arith); few = λ k. k }

  pub reaches_then : (S A : Type 0) (from mid to : W) (n m k : ℕ) (run there end : List Answer → Outcome TableOp S A) → Reaches S A from mid n m run there → Reaches S A mid to m k there end → Reaches S A from to n k run end
  reaches_then S A from mid to n m k run there end g h = record {
    operations = g.operations ++ h.operations;
    answers = g.answers ++ h.answers;
    told = told_then g.operations g.answers h.operations h.answers from mid to g.told h.told;
    asked = asked_then S A run there g.operations g.answers h.operations h.answers g.asked g.reached h.asked;
    reached = λ more. ap run (append_assoc g.answers h.answers more) ∙ g.reached (h.answers ++ more) ∙ h.reached more;
    counted = let a = g.counted in let b = h.counted in omega (arith, length-append g.answers h.answers, a, b);
    few = λ l. h.few (g.few l);
  }

  pub reaches_open : (S A : Type 0) (from mid to : W) (n m k : ℕ) (q : Q) (run there : List Answer → Outcome TableOp S A) (end : S) → Reaches S A from mid n m run there → Opens S A mid to m k q there end → Opens S A from to n k q run end
  reaches_open S A from mid to n m k q run there end g h = record {
    operations = g.operations ++ h.operations;
    answers = g.answers ++ h.answers;
    mid = h.mid;
    operation = h.operation;
    told = told_then g.operations g.answers h.operations h.answers from mid h.mid g.told h.told;
    asked = asked_then S A run there g.operations g.answers h.operations h.answers g.asked g.reached h.asked;
    untold = h.untold;
    stops = g.reached h.answers ∙ h.stops;
    counted = let a = g.counted in let b = h.counted in omega (arith, length-append g.answers h.answers, a, b);
    few = λ l. h.few (g.few l);
  }

  module _ (S T A B : Type 0) (c : Outcome TableOp S A → Outcome TableOp T B) (to_end : S → T) (keeps : (o : TableOp) (s : S) → c (Asks o s) ≡ Asks o (to_end s)) where
    pub carried : (from to : W) (n m : ℕ) (run end : List Answer → Outcome TableOp S A) → Reaches S A from to n m run end → Reaches T B from to n m (λ x. c (run x)) (λ x. c (end x))
    carried from to n m run end h = record {
      operations = h.operations;
      answers = h.answers;
      told = h.told;
      asked = asked_by S T A B run (λ x. c (run x)) h.operations h.answers (λ x o s e. (to_end s, ap c e ∙ keeps o s)) h.asked;
      reached = λ more. ap c (h.reached more);
      counted = h.counted;
      few = h.few;
    }

    pub carried_open : (from to : W) (n m : ℕ) (q : Q) (run : List Answer → Outcome TableOp S A) (end : S) → Opens S A from to n m q run end → Opens T B from to n m q (λ x. c (run x)) (to_end end)
    carried_open from to n m q run end h = record {
      operations = h.operations;
      answers = h.answers;
      mid = h.mid;
      operation = h.operation;
      told = h.told;
      asked = asked_by S T A B run (λ x. c (run x)) h.operations h.answers (λ x o s e. (to_end s, ap c e ∙ keeps o s)) h.asked;
      untold = h.untold;
      stops = ap c h.stops ∙ keeps h.operation end;
      counted = h.counted;
      few = h.few;
    }

-- ---- runs that go beside each other

-- Near is a state with a world W, Far the same with a list of answers.
pub record View (W : Type 0) : Type 1 where
  pub Near : Type 0
  pub Far : Type 0
  pub world : Near → W
  pub count : Near → ℕ
  pub written : Near → List Answer → Far

module _ (Q W : Type 0) (ask : Ask Q W) (V : View W) where
  -- the run on a list goes where this outcome is
  abbrev pub Follows : (A : Type 0) → Outcome Q V.Near A → V.Near → (List Answer → Outcome TableOp V.Far A) → Type 0
  Follows A (Gives a t) s run = Reaches Q W ask V.Far A (V.world s) (V.world t) (V.count s) (V.count t) run (λ x. Gives a (V.written t x))
  Follows A (Throws e t) s run = Reaches Q W ask V.Far A (V.world s) (V.world t) (V.count s) (V.count t) run (λ x. Throws e (V.written t x))
  Follows A (Asks q t) s run = Opens Q W ask V.Far A (V.world s) (V.world t) (V.count s) (V.count t) q run (V.written t [])

  pub record Alike (A : Type 0) (r : Run Q V.Near A) (l : Run TableOp V.Far A) : Type 0 where
    pub at : (s : V.Near) → Follows A (r s) s (λ x. l (V.written s x))

  pub pure_alike : (A : Type 0) (a : A) → Alike A (pure a) (pure a)
  pure_alike A a = record { at = λ s. reaches_now Q W ask V.Far A (V.world s) (V.count s) _ _ (λ more. refl) }

  pub throw_alike : (A : Type 0) (t : Thrown) → Alike A (throw t) (throw t)
  throw_alike A t = record { at = λ s. reaches_now Q W ask V.Far A (V.world s) (V.count s) _ _ (λ more. refl) }

  -- ---- one after the other

  joined : (B : Type 0) (o : Outcome Q V.Near B) (s t : V.Near) (run there : List Answer → Outcome TableOp V.Far B) → Reaches Q W ask V.Far B (V.world s) (V.world t) (V.count s) (V.count t) run there → Follows B o t there → Follows B o s run
  joined B (Gives b u) s t run there g h = reaches_then Q W ask V.Far B _ _ _ _ _ _ run there (λ x. Gives b (V.written u x)) g h
  joined B (Throws e u) s t run there g h = reaches_then Q W ask V.Far B _ _ _ _ _ _ run there (λ x. Throws e (V.written u x)) g h
  joined B (Asks q u) s t run there g h = reaches_open Q W ask V.Far B _ _ _ _ _ _ q run there (V.written u []) g h

  bind_at : (A B : Type 0) (o : Outcome Q V.Near A) (s : V.Near) (run : List Answer → Outcome TableOp V.Far A) (f : A → Run Q V.Near B) (g : A → Run TableOp V.Far B) → Follows A o s run → ((a : A) → Alike B (f a) (g a)) → Follows B (then_run o f) s (λ x. then_run (run x) g)
  bind_at A B (Gives a t) s run f g h k = joined B (f a t) s t (λ x. then_run (run x) g) (λ x. g a (V.written t x)) (carried Q W ask V.Far V.Far A B (λ o. then_run o g) (λ u. u) (λ o u. refl) _ _ _ _ run (λ x. Gives a (V.written t x)) h) ((k a).at t)
  bind_at A B (Throws e t) s run f g h k = carried Q W ask V.Far V.Far A B (λ o. then_run o g) (λ u. u) (λ o u. refl) _ _ _ _ run (λ x. Throws e (V.written t x)) h
  bind_at A B (Asks q t) s run f g h k = carried_open Q W ask V.Far V.Far A B (λ o. then_run o g) (λ u. u) (λ o u. refl) _ _ _ _ q run (V.written t []) h

  pub bind : {A B : Type 0} {r : Run Q V.Near A} {l : Run TableOp V.Far A} {f : A → Run Q V.Near B} {g : A → Run TableOp V.Far B} → Alike A r l → ((a : A) → Alike B (f a) (g a)) → Alike B (r >>= f) (l >>= g)
  bind {A} {B} {r} {l} {f} {g} h k = record { at = λ s. bind_at A B (r s) s (λ x. l (V.written s x)) f g (h.at s) k }

  -- ---- forms that ask nothing of their own

  pub came_alike : {A : Type 0} (x : Result A Thrown) → Alike A (came_to x) (came_to x)
  came_alike {A} (Ok v) = pure_alike A v
  came_alike {A} (Err t) = throw_alike A t

  abbrev pub AllAlike : (A : Type 0) → List (Run Q V.Near A) → List (Run TableOp V.Far A) → Type 0
  AllAlike A [] [] = Unit {0}
  AllAlike A (r ∷ rs) (l ∷ ls) = Alike A r l × AllAlike A rs ls
  AllAlike A _ _ = ⊥

  pub gather_alike : (A : Type 0) (there : List A) (rs : List (Run Q V.Near A)) (ls : List (Run TableOp V.Far A)) → AllAlike A rs ls → Alike (List A) (gather there rs) (gather there ls)
  gather_alike A there [] [] h = pure_alike (List A) there
  gather_alike A there (r ∷ rs) (l ∷ ls) h = bind h.0 (λ a. gather_alike A (there ++ a ∷ []) rs ls h.1)
  gather_alike A there [] (l ∷ ls) h = absurd h
  gather_alike A there (r ∷ rs) [] h = absurd h

  pub goes_on_alike : (A : Type 0) (r : Run Q V.Near (Flow A)) (l : Run TableOp V.Far (Flow A)) → Alike (Flow A) r l → (f : Flow A) → Alike (Flow A) (goes_on r f) (goes_on l f)
  goes_on_alike A r l h Goes = h
  goes_on_alike A r l h (Returns v) = pure_alike (Flow A) (Returns v)

  pub in_order_alike : (A : Type 0) (rs : List (Run Q V.Near (Flow A))) (ls : List (Run TableOp V.Far (Flow A))) → AllAlike (Flow A) rs ls → Alike (Flow A) (in_order rs) (in_order ls)
  in_order_alike A [] [] h = pure_alike (Flow A) Goes
  in_order_alike A (r ∷ rs) (l ∷ ls) h = bind h.0 (goes_on_alike A (in_order rs) (in_order ls) (in_order_alike A rs ls h.1))
  in_order_alike A [] (l ∷ ls) h = absurd h
  in_order_alike A (r ∷ rs) [] h = absurd h
