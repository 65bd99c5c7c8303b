-- One turn of a reading function.
use Rattle.std.proofs.Common.{◌≡◌, ℕ, zero, suc, ◌<◌, ◌≤◌, length, Bool, true, false, if◌then◌else◌, List, [], ◌∷◌, ◌++◌, Option, Some, OnSome, Result, Ok, Err, refl, sym, ap, ◌∙◌, subst, arith}
use Rattle.std.proofs.lemmas.Bool.{false≢true}
use Rattle.std.specs.Result.{IsErrAnd}
use Rattle.px_words.specs.declared.lexeme.Word.{Word}
use Rattle.px_words.specs.declared.lexeme.Word.TheVariants as w
use Rattle.px_words.specs.declared.lexeme.Lexeme.{Lexeme}
use Rattle.px_tree.specs.declared.Expr.{Expr}
use Rattle.px_tree.specs.declared.Stmt.{Stmt}
use Rattle.px_parse.specs.declared.error.ReadError.{ReadError}
use Rattle.px_parse.specs.declared.error.ReadError.TheVariants.{Unreadable, NoMemory}
use Rattle.px_words.specs.Words.{prefix_sign, binary_sign}
use Rattle.px_parse.specs.Reading.{State, Read, Reads, and_then, ◌>>=◌, next_word, same_word, sees, take, repeated, next_argument, postfix_on, postfixes, postfix, operand_on, operand, operator_on, operators, joined, expression, place, by_word, simple_on, simple, Gives, Fails}
use Rattle.px_parse.proofs.Leading.{gives_as}

-- ---- how a function that reads ends

pub fails_then : {A B : Type 0} (e : ReadError) (read : Read A) (f : A → Reads B) → Fails e read → Fails e (and_then read f)
fails_then NoMemory read f h = tt
fails_then Unreadable read f h = ap (λ (r : Read _). and_then r f) h

pub fails_as : {B : Type 0} (e : ReadError) (read : Read B) (result : Result B ReadError) (now : State) → IsErrAnd result (λ y. y ≡ e) → Fails e read → Gives read result now
fails_as e read (Ok x) now i h = absurd i
fails_as e read (Err y) now i h = subst (λ (z : ReadError). Fails z read) (sym i) h

pub fails_behind : {A B : Type 0} (e : ReadError) (read : Read A) (f : A → Reads B) (a : A) (s : State) → read ≡ Some (a, s) → Fails e (f a s) → Fails e (and_then read f)
fails_behind e read f a s h k = subst (λ (r : Read _). Fails e (and_then r f)) (sym h) k

-- the exit of a `?`
pub exits : {A B : Type 0} (e : ReadError) (read : Read A) (f : A → Reads B) (whole : Read B) (result : Result B ReadError) (now : State) → IsErrAnd result (λ y. y ≡ e) → Fails e read → whole ≡ and_then read f → Gives whole result now
exits e read f whole result now i h k = gives_as whole (and_then read f) result now k (fails_as e (and_then read f) result now i (fails_then e read f h))

-- behind what was read
pub goes_on : {A B : Type 0} (read : Read A) (f : A → Reads B) (whole : Read B) (a : A) (s : State) (result : Result B ReadError) (now : State) → whole ≡ and_then read f → read ≡ Some (a, s) → Gives (f a s) result now → Gives whole result now
goes_on read f whole a s result now k h g = gives_as whole (f a s) result now (k ∙ ap (λ (r : Read _). and_then r f) h) g

-- ---- turns that are left

pub postfixes_by : (source : List ℕ) (m : ℕ) (inner : Reads Expr) (of : Expr) (s : State) (result : Result Expr ReadError) (now : State) → length s < m → ((k : ℕ) → length s ≤ k → Gives (postfix_on source inner (postfixes source inner k) of (next_word s) s) result now) → Gives (postfixes source inner m of s) result now
unfolding postfixes
postfixes_by source zero inner of s result now h g = absurd (omega arith)
postfixes_by source (suc m) inner of s result now h g = g m (omega arith)

pub operand_by : (source : List ℕ) (m : ℕ) (inner : Reads Expr) (s : State) (result : Result Expr ReadError) (now : State) → length s < m → ((k : ℕ) → length s ≤ k → Gives (operand_on (prefix_sign (next_word s)) (operand source inner k) (postfix source inner (suc k)) s) result now) → Gives (operand source inner m s) result now
unfolding operand
operand_by source zero inner s result now h g = absurd (omega arith)
operand_by source (suc m) inner s result now h g = g m (omega arith)

pub operators_by : (source : List ℕ) (m : ℕ) (inner : Reads Expr) (least : ℕ) (left : Expr) (s : State) (result : Result Expr ReadError) (now : State) → length s < m → ((k : ℕ) → length s ≤ k → Gives (operator_on (operand source inner k) (operators source inner k) least left (binary_sign (next_word s)) s) result now) → Gives (operators source inner m least left s) result now
unfolding operators
operators_by source zero inner least left s result now h g = absurd (omega arith)
operators_by source (suc m) inner least left s result now h g = g m (omega arith)

pub expression_by : (source : List ℕ) (m : ℕ) (s : State) (result : Result Expr ReadError) (now : State) → length s < m → ((k : ℕ) → length s ≤ k → Gives (and_then (operand source (expression source k) (suc (length s)) s) (operators source (expression source k) (suc (length s)) 1)) result now) → Gives (expression source m s) result now
unfolding expression joined
expression_by source zero s result now h g = absurd (omega arith)
expression_by source (suc m) s result now h g = g m (omega arith)

-- ---- lists

pub repeated_ends : {A : Type 0} (test : State → Bool) (one : Reads A) (m : ℕ) (found : List A) (s : State) → test s ≡ false → repeated test one m found s ≡ Some (found, s)
unfolding repeated
repeated_ends test one zero found s h = refl
repeated_ends test one (suc m) found s h = ap (λ b. if b then (one >>= (λ x. repeated test one m (found ++ x ∷ []))) s else Some (found, s)) h

-- a comma is left, so a turn is
pub argument_turn : (inner : Reads Expr) (m : ℕ) (found : List Expr) (s : State) → length s ≤ m → sees w.Comma s ≡ true → (k : ℕ) × (length s ≤ suc k) × (repeated (sees w.Comma) (next_argument inner) m found s ≡ and_then (and_then (take s) (λ _. inner)) (λ x. repeated (sees w.Comma) (next_argument inner) k (found ++ x ∷ [])))
unfolding repeated next_argument same_word
argument_turn inner m found [] h e = absurd (false≢true e)
argument_turn inner zero found (x ∷ xs) h e = absurd (omega arith)
argument_turn inner (suc m) found (x ∷ xs) h e =
    (m, h, ap (λ b. if b then (next_argument inner >>= (λ x. repeated (sees w.Comma) (next_argument inner) m (found ++ x ∷ []))) (x ∷ xs) else Some (found, x ∷ xs)) e)

pub argument_fails : (inner : Reads Expr) (m : ℕ) (found : List Expr) (s : State) (whole : Read (List Expr)) (e : ReadError) (result : Result (List Expr) ReadError) (now : State) → length s ≤ m → sees w.Comma s ≡ true → whole ≡ repeated (sees w.Comma) (next_argument inner) m found s → IsErrAnd result (λ y. y ≡ e) → Fails e (and_then (take s) (λ _. inner)) → Gives whole result now
argument_fails inner m found s whole e result now h c k i f =
    exits e (and_then (take s) (λ _. inner)) _ whole result now i f (k ∙ (argument_turn inner m found s h c).2)

pub argument_read : (inner : Reads Expr) (m : ℕ) (found more : List Expr) (s s' s'' : State) (whole : Read (List Expr)) (x : Lexeme) (argument : Expr) → length s ≤ m → sees w.Comma s ≡ true → whole ≡ repeated (sees w.Comma) (next_argument inner) m found s → take s ≡ Some (x, s') → inner s' ≡ Some (argument, s'') → more ≡ found ++ argument ∷ [] → length s'' < length s → (k : ℕ) × (length s'' ≤ k) × (whole ≡ repeated (sees w.Comma) (next_argument inner) k more s'')
argument_read inner m found more s s' s'' whole x argument h c k t g p d =
    let turn = argument_turn inner m found s h c in (
      turn.0,
      omega (arith, d, turn.1),
      k ∙ turn.2
          ∙ ap (λ (r : Read Lexeme). and_then (and_then r (λ _. inner)) (λ x. repeated (sees w.Comma) (next_argument inner) turn.0 (found ++ x ∷ []))) t
          ∙ ap (λ (r : Read Expr). and_then r (λ x. repeated (sees w.Comma) (next_argument inner) turn.0 (found ++ x ∷ []))) g
          ∙ ap (λ (xs : List Expr). repeated (sees w.Comma) (next_argument inner) turn.0 xs s'') (sym p),
    )

-- ---- simple statements

pub simple_by : (source : List ℕ) (s s' : State) (at : Expr) (x : Word) (result : Result Stmt ReadError) (now : State) → place source s ≡ Some (at, s') → next_word s' ≡ x → Gives (simple_on source at x s') result now → Gives (simple source s) result now
unfolding simple
simple_by source s s' at x result now h e g =
    goes_on (place source s) (λ at. by_word (simple_on source at)) _ at s' result now refl h (gives_as _ _ result now (ap (λ y. simple_on source at y s') e) g)

-- ---- a part that stands there

pub on_some : {A : Type 0} (o : Option A) (a : A) (P : Type 0) → o ≡ Some a → OnSome o P → P
on_some o a P e h = subst (λ (x : Option _). OnSome x P) e h
