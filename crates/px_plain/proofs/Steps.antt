-- One run after another.
use Rattle.std.proofs.Common.{◌≡◌, List, Result, Ok, Err, sym, ap, subst}
use Rattle.std.specs.Result.{IsErrAnd}
use Rattle.px_value.specs.declared.value.Value.{Value}
use Rattle.px_value.specs.Outcome.{Gives, Run, then_run, beside, Flow}
use Rattle.px_value.specs.Operators.{Applied}
use Rattle.px_mean.specs.Run.{came_to}
use Rattle.px_plain.specs.declared.stop.Stop.{Stop}
use Rattle.px_plain.specs.declared.stop.Stop.TheVariants as stop
use Rattle.px_plain.specs.declared.stop.Next.{Next}
use Rattle.px_plain.specs.declared.machine.Machine.{Machine}
use Rattle.px_plain.specs.View.{Here, There, Ending, Stops, Ends, EndsFlow, Came, frame, shared_of}

abbrev pub Then : Type 0 → Type 0 → Type 0 → Type 0
Then S A B = A → Run ⊥ S B

-- what stops the first stops both
pub stops_then : {S A B : Type 0} (s : S) (e : Stop) (o : Ending S A) (f : Then S A B) → Stops s e o → Stops s e (then_run o f)
stops_then {S} {A} s (stop.Threw t) o f h = ap (λ (x : Ending S A). then_run x f) h
stops_then s stop.NoMemory o f h = tt

-- the second goes on from where the first ended
pub gives_then : {S A B : Type 0} (s : S) (v : A) (o : Ending S A) (f : Then S A B) → o ≡ Gives v s → then_run o f ≡ f v s
gives_then {S} {A} s v o f h = ap (λ (x : Ending S A). then_run x f) h

-- the exit of a `?`
pub exits : {S A B : Type 0} (s : S) (e : Stop) (o : Ending S A) (o' : Ending S B) (f : Then S A B) (r : Result B Stop) → IsErrAnd r (λ y. y ≡ e) → Stops s e o → o' ≡ then_run o f → Ends s r o'
exits s e o o' f (Ok v) i h k = absurd i
exits {S} {A} {B} s e o o' f (Err y) i h k = subst (λ (x : Stop). Stops s x o') (sym i) (subst (λ (x : Ending S B). Stops s e x) (sym k) (stops_then s e o f h))

-- the answer of the whole is that of its part
pub same_end : {S A : Type 0} (s : S) (r : Result A Stop) (o o' : Ending S A) → o' ≡ o → Ends s r o → Ends s r o'
same_end {S} {A} s r o o' e h = subst (λ (x : Ending S A). Ends s r x) (sym e) h

-- an operator's value or throw
pub ends_came : {S : Type 0} (s : S) (r : Result Value Stop) (a : Applied) → Came r a → Ends s r (came_to a s)
ends_came s (Ok v) a h = ap (λ (x : Applied). came_to x s) h
ends_came s (Err (stop.Threw t)) a h = ap (λ (x : Applied). came_to x s) h
ends_came s (Err stop.NoMemory) a h = tt

-- the same of a throw alone
pub stops_came : {S : Type 0} (s : S) (e : Stop) (a : Applied) → Came (Err e) a → Stops s e (came_to a s)
stops_came s (stop.Threw t) a h = ap (λ (x : Applied). came_to x s) h
stops_came s stop.NoMemory a h = tt

-- what only the shared part is for
pub ends_shared : {A : Type 0} (slots : List Value) (m : Machine) (r : Result A Stop) (o : Ending There A) → Ends (shared_of m) r o → Ends (frame slots m) r (beside slots o)
ends_shared {A} slots m (Ok v) o h = ap (λ (x : Ending There A). beside slots x) h
ends_shared {A} slots m (Err (stop.Threw t)) o h = ap (λ (x : Ending There A). beside slots x) h
ends_shared slots m (Err stop.NoMemory) o h = tt

-- ---- statements

pub exits_flow : {A : Type 0} (s : Here) (e : Stop) (o : Ending Here A) (o' : Ending Here (Flow Value)) (f : Then Here A (Flow Value)) (r : Result Next Stop) → IsErrAnd r (λ y. y ≡ e) → Stops s e o → o' ≡ then_run o f → EndsFlow s r o'
exits_flow s e o o' f (Ok v) i h k = absurd i
exits_flow s e o o' f (Err y) i h k = subst (λ (x : Stop). Stops s x o') (sym i) (subst (λ (x : Ending Here (Flow Value)). Stops s e x) (sym k) (stops_then s e o f h))

pub same_flow : (s : Here) (r : Result Next Stop) (o o' : Ending Here (Flow Value)) → o' ≡ o → EndsFlow s r o → EndsFlow s r o'
same_flow s r o o' e h = subst (λ (x : Ending Here (Flow Value)). EndsFlow s r x) (sym e) h
