-- The turns of a loop that reads one after the other, and a statement with turns enough.
use Rattle.std.proofs.Common.{◌≡◌, ℕ, zero, suc, ◌<◌, ◌≤◌, Bool, true, false, if◌then◌else◌, List, [], ◌∷◌, ◌++◌, length, Option, Some, None, Result, Ok, Err, refl, sym, ap, ◌∙◌, subst, arith}
use Rattle.std.specs.Result.{IsErrAnd}
use Rattle.px_words.specs.declared.lexeme.Word.{Word}
use Rattle.px_words.specs.declared.lexeme.Word.TheVariants as w
use Rattle.px_tree.specs.declared.Stmt.{Stmt}
use Rattle.px_parse.specs.declared.error.ReadError.{ReadError}
use Rattle.px_parse.specs.declared.error.ReadError.TheVariants.{Unreadable, NoMemory}
use Rattle.px_parse.proofs.Leading.{gives_as}
use Rattle.px_parse.specs.Reading.{State, Read, Reads, and_then, ◌>>=◌, by_test, next_word, Gives, Fails, repeated, statement, statement_on, braced, empty, conditional, while_loop, for_loop, returned, is_print, print, ended_by_semicolon, simple}

pub repeated_done : {A : Type 0} (goes_on : State → Bool) (one : Reads A) (m : ℕ) (found : List A) (s : State) → m ≡ 0 → repeated goes_on one m found s ≡ Some (found, s)
unfolding repeated
repeated_done goes_on one zero found s h = refl
repeated_done goes_on one (suc m) found s h = absurd (omega arith)

pub repeated_step : {A : Type 0} (goes_on : State → Bool) (one : Reads A) (m k : ℕ) (found : List A) (s : State) → goes_on s ≡ true → m ≡ suc k → repeated goes_on one m found s ≡ and_then (one s) (λ x. repeated goes_on one k (found ++ x ∷ []))
unfolding repeated
repeated_step goes_on one m k found s h e =
    ap (λ n. repeated goes_on one n found s) e ∙ ap (λ b. if b then (one >>= (λ x. repeated goes_on one k (found ++ x ∷ []))) s else Some (found, s)) h

pub repeated_turn : {A : Type 0} (goes_on : State → Bool) (one : Reads A) (m k : ℕ) (found more : List A) (x : A) (s s' : State) → goes_on s ≡ true → m ≡ suc k → one s ≡ Some (x, s') → more ≡ found ++ x ∷ [] → repeated goes_on one m found s ≡ repeated goes_on one k more s'
repeated_turn goes_on one m k found more x s s' h e o p =
    repeated_step goes_on one m k found s h e ∙ ap (λ (r : Read _). and_then r (λ x. repeated goes_on one k (found ++ x ∷ []))) o ∙ ap (λ (xs : List _). repeated goes_on one k xs s') (sym p)

-- a statement that begins with a word, with more turns than lexemes
pub statement_turn : (source : List ℕ) (one : Reads Stmt → Reads Stmt) (n : ℕ) (s : State) (result : Result Stmt ReadError) (now : State) (x : Word) → length s < n → next_word s ≡ x → ((inner : Reads Stmt) → statement_on source inner x ≡ one inner) → ((k : ℕ) → length s ≤ k → Gives (one (statement source k) s) result now) → Gives (statement source n s) result now
unfolding statement
statement_turn source one zero s result now x h e i g = absurd (omega arith)
statement_turn source one (suc n) s result now x h e i g =
    gives_as _ _ result now (ap (λ (y : Word). statement_on source (statement source n) y s) e ∙ ap (λ (p : Reads Stmt). p s) (i (statement source n))) (g n (omega arith))

pub braced_word : (source : List ℕ) (inner : Reads Stmt) → statement_on source inner w.OpenBrace ≡ braced source inner
unfolding statement_on
braced_word source inner = refl

pub empty_word : (source : List ℕ) (inner : Reads Stmt) → statement_on source inner w.Semicolon ≡ empty
unfolding statement_on
empty_word source inner = refl

pub conditional_word : (source : List ℕ) (inner : Reads Stmt) → statement_on source inner w.If ≡ conditional source inner
unfolding statement_on
conditional_word source inner = refl

pub while_loop_word : (source : List ℕ) (inner : Reads Stmt) → statement_on source inner w.While ≡ while_loop source inner
unfolding statement_on
while_loop_word source inner = refl

pub for_loop_word : (source : List ℕ) (inner : Reads Stmt) → statement_on source inner w.For ≡ for_loop source inner
unfolding statement_on
for_loop_word source inner = refl

pub returned_word : (source : List ℕ) (inner : Reads Stmt) → statement_on source inner w.Return ≡ returned source
unfolding statement_on
returned_word source inner = refl

pub other_statement : (source : List ℕ) (inner : Reads Stmt) (x : Word) → (x ≡ w.OpenBrace → ⊥) → (x ≡ w.Semicolon → ⊥) → (x ≡ w.If → ⊥) → (x ≡ w.While → ⊥) → (x ≡ w.For → ⊥) → (x ≡ w.Return → ⊥) → statement_on source inner x ≡ by_test is_print (print source) (ended_by_semicolon (simple source))
unfolding statement_on
other_statement source inner w.OpenBrace a b c d e f = absurd (a refl)
other_statement source inner w.Semicolon a b c d e f = absurd (b refl)
other_statement source inner w.If a b c d e f = absurd (c refl)
other_statement source inner w.While a b c d e f = absurd (d refl)
other_statement source inner w.For a b c d e f = absurd (e refl)
other_statement source inner w.Return a b c d e f = absurd (f refl)
other_statement source inner _ a b c d e f = refl
