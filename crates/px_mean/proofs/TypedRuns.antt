-- Runs that keep a heap typed.
use Rattle.std.proofs.Common.{◌≡◌, Bool, true, false, if◌then◌else◌, List, Result, Ok, Err, refl}
use Rattle.px_value.specs.declared.object.Object.{Object}
use Rattle.px_value.specs.declared.thrown.Thrown.{Thrown}
use Rattle.px_value.specs.Outcome.{Outcome, Gives, Throws, Asks, Run, then_run, ◌>>=◌, pure, throw}
use Rattle.px_mean.specs.Run.{came_to}
use Rattle.px_mean.proofs.TypedHeaps.{Grows, stays, grows_then}

-- what a run changes: a state with a heap, and what is kept of it
pub record Kept : Type 1 where
  pub State : Type 0
  pub heap : State → List Object
  pub Holds : State → Type 0

module _ (Q : Type 0) (K : Kept) where
  -- Where it comes to a value, the heap grew from this one, what is kept holds, and so does this of the value beside the heap.
  abbrev pub Ended : (A : Type 0) → (List Object → A → Type 0) → List Object → Outcome Q K.State A → Type 0
  Ended A P heap (Gives a s) = Grows heap (K.heap s) × K.Holds s × P (K.heap s) a
  Ended A P heap (Throws t s) = Unit {0}
  Ended A P heap (Asks q z) = Unit {0}

  -- so it ends from each state that holds, whose heap grew from this one
  pub record Keeps (heap : List Object) (A : Type 0) (r : Run Q K.State A) (P : List Object → A → Type 0) : Type 0 where
    pub at : (s : K.State) → Grows heap (K.heap s) → K.Holds s → Ended A P (K.heap s) (r s)

  ended_from : (A : Type 0) (P : List Object → A → Type 0) (a b : List Object) (o : Outcome Q K.State A) → Grows a b → Ended A P b o → Ended A P a o
  ended_from A P a b (Gives v s) g h = (grows_then a b (K.heap s) g h.0, h.1, h.2)
  ended_from A P a b (Throws t s) g h = tt
  ended_from A P a b (Asks q z) g h = tt

  pub keeps_later : (A : Type 0) (r : Run Q K.State A) (P : List Object → A → Type 0) (a b : List Object) → Grows a b → Keeps a A r P → Keeps b A r P
  keeps_later A r P a b g h = record { at = λ s k. h.at s (grows_then a b (K.heap s) g k) }

  pub gives : (A : Type 0) (P : List Object → A → Type 0) (heap : List Object) (a : A) → ((later : List Object) → Grows heap later → P later a) → Keeps heap A (pure a) P
  gives A P heap a h = record { at = λ s g k. (stays (K.heap s), k, h (K.heap s) g) }

  pub throws : (A : Type 0) (P : List Object → A → Type 0) (heap : List Object) (t : Thrown) → Keeps heap A (throw t) P
  throws A P heap t = record { at = λ s g k. tt }

  pub comes : (A : Type 0) (P : List Object → A → Type 0) (heap : List Object) (x : Result A Thrown) → ((a : A) → x ≡ Ok a → (later : List Object) → Grows heap later → P later a) → Keeps heap A (came_to x) P
  comes A P heap (Ok a) h = gives A P heap a (h a refl)
  comes A P heap (Err t) h = throws A P heap t

  ended_then : (A B : Type 0) (P : List Object → A → Type 0) (R : List Object → B → Type 0) (heap : List Object) (o : Outcome Q K.State A) (f : A → Run Q K.State B) → Ended A P heap o → ((later : List Object) → Grows heap later → (a : A) → P later a → Keeps later B (f a) R) → Ended B R heap (then_run o f)
  ended_then A B P R heap (Gives a s) f h k = ended_from B R heap (K.heap s) (f a s) h.0 ((k (K.heap s) h.0 a h.2).at s (stays (K.heap s)) h.1)
  ended_then A B P R heap (Throws t s) f h k = tt
  ended_then A B P R heap (Asks q z) f h k = tt

  pub and_then : {A B : Type 0} (P : List Object → A → Type 0) (R : List Object → B → Type 0) (heap : List Object) (r : Run Q K.State A) (f : A → Run Q K.State B) → Keeps heap A r P → ((later : List Object) → Grows heap later → (a : A) → P later a → Keeps later B (f a) R) → Keeps heap B (r >>= f) R
  and_then {A} {B} P R heap r f h k = record { at = λ s g holds. ended_then A B P R (K.heap s) (r s) f (h.at s g holds) (λ later l a p. k later (grows_then heap (K.heap s) later g l) a p) }

  pub either : (A : Type 0) (P : List Object → A → Type 0) (heap : List Object) (b : Bool) (r l : Run Q K.State A) → Keeps heap A r P → Keeps heap A l P → Keeps heap A (if b then r else l) P
  either A P heap true r l h k = h
  either A P heap false r l h k = k
