-- A loop, turn by turn.
use Rattle.std.proofs.Common.{◌≡◌, ℕ, zero, suc, Some, None, ◌+◌, ◌≤◌, ◌<◌, Bool, true, false, Option, option_map, if◌then◌else◌, refl, sym, ◌∙◌, arith}
use Rattle.px_value.specs.declared.value.Value.{Value}
use Rattle.px_value.specs.declared.thrown.Thrown.TheVariants.{TurnsOut}
use Rattle.px_value.specs.Outcome.{Gives, Throws, Asks, Run, then_run, ◌>>=◌, pure, throw, on_shared, Flow, Goes, Returns, goes_on}
use Rattle.px_mean.specs.Run.{turn, max_turns}
use Rattle.px_mean.specs.Expressions.{is_true}
use Rattle.px_mean.specs.Statements.{loop, or_goes}
use Rattle.px_tree.specs.declared.Expr.{Expr}
use Rattle.px_tree.specs.declared.Stmt.{Stmt}
use Rattle.px_plain.specs.declared.around.Around.{Around}
use Rattle.px_plain.specs.View.{Here, Ending, says, does}
use Rattle.px_plain.specs.Parts.{Part, holds, chosen, round, then_last}

in_turn : {A B C : Type 0} (o : Ending Here A) (f : A → Run ⊥ Here B) (g : B → Run ⊥ Here C) → then_run (then_run o f) g ≡ then_run o (λ a s. then_run (f a s) g)
in_turn (Gives a s) f g = refl
in_turn (Throws t s) f g = refl
in_turn (Asks q z) f g = refl

alike : {A B : Type 0} (o : Ending Here A) (f g : A → Run ⊥ Here B) → ((a : A) (s : Here) → f a s ≡ g a s) → then_run o f ≡ then_run o g
alike (Gives a s) f g h = h a s
alike (Throws t s) f g h = refl
alike (Asks q z) f g h = refl

-- what follows a test that was counted
abbrev pub again : Part Value → Part (Flow Value) → ℕ → Bool → Part (Flow Value)
again test body zero b = throw TurnsOut
again test body (suc n) b = if b then body >>= goes_on (loop test body n) else pure Goes

abbrev counted : Part Value → Part Bool
counted test = test >>= (λ v. on_shared turn >>= (λ _. pure (is_true v)))

as_counted : (test : Part Value) (s : Here) (f : Bool → Part (Flow Value)) → then_run (test s) (λ v. on_shared turn >>= (λ _. f (is_true v))) ≡ then_run (counted test s) f
as_counted test s f = sym (in_turn (test s) (λ v. on_shared turn >>= (λ _. pure (is_true v))) f ∙ alike (test s) _ _ (λ v t. in_turn (on_shared turn t) (λ _. pure (is_true v)) f))

pub loop_is : (test : Part Value) (body : Part (Flow Value)) (n : ℕ) (s : Here) → loop test body n s ≡ then_run (counted test s) (again test body n)
unfolding loop
loop_is test body zero s = as_counted test s (again test body zero)
loop_is test body (suc n) s = as_counted test s (again test body (suc n))

-- a turn more is left
pub has_more : (n old new : ℕ) → max_turns + 1 ≤ n + old → old < new → new ≤ max_turns → (k : ℕ) × (n ≡ suc k) × (max_turns + 1 ≤ k + new)
has_more zero old new h more most = absurd (omega (arith, h, more, most))
has_more (suc k) old new h more most = (k, refl, omega (arith, h, more))

pub again_false : (test : Part Value) (body : Part (Flow Value)) (n k : ℕ) (b : Bool) (s : Here) → n ≡ suc k → b ≡ false → again test body n b s ≡ Gives Goes s
again_false test body n k b s e f = (λ i. again test body (e i) (f i) s)

pub again_true : (test : Part Value) (body : Part (Flow Value)) (n k : ℕ) (b : Bool) (s : Here) → n ≡ suc k → b ≡ true → again test body n b s ≡ then_run (body s) (goes_on (loop test body k))
again_true test body n k b s e f = (λ i. again test body (e i) (f i) s)

-- ---- branches

-- an `if` goes on with the truth of its condition
pub chosen_is : (a : Around) (test : Expr) (branch : Stmt) (other : Option Stmt) (s : Here) → chosen a test branch other s ≡ then_run (holds a test s) (λ b. if b then does a branch else or_goes (option_map (does a) other))
chosen_is a test branch other s = sym (in_turn ((says a test).run s) (λ v. pure (is_true v)) (λ b. if b then does a branch else or_goes (option_map (does a) other)))

-- ---- turns

after_flow : (o : Ending Here (Flow Value)) (f g : Part (Flow Value)) → then_run (then_run o (goes_on f)) (goes_on g) ≡ then_run o (goes_on (λ s. then_run (f s) (goes_on g)))
after_flow (Gives Goes s) f g = refl
after_flow (Gives (Returns v) s) f g = refl
after_flow (Throws t s) f g = refl
after_flow (Asks q z) f g = refl

-- a turn is its body, and then what stands before the next one
pub round_is : (a : Around) (body : Stmt) (last : Option Stmt) (g : Part (Flow Value)) (s : Here) → then_run (round a body last s) (goes_on g) ≡ then_run (does a body s) (goes_on (λ t. then_run (then_last a last t) (goes_on g)))
round_is a body None g s = refl
round_is a body (Some l) g s = after_flow (does a body s) (does a l) g
