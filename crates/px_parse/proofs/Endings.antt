-- What may follow an expression, and where the loops of reading end.
use Rattle.std.proofs.Common.{◌≡◌, ℕ, zero, suc, ◌≤◌, ◌<◌, true, false, nat_le, List, ◌++◌, Option, Some, None, length, length-append, refl, sym, ap, subst, ◌∙◌, arith}
use Rattle.std.proofs.lemmas.Bool.{le-leb, lt-leb}
use Rattle.px_words.specs.declared.lexeme.Lexeme.{Lexeme}
use Rattle.px_words.specs.declared.lexeme.Word.{Word}
use Rattle.px_words.specs.declared.lexeme.Word.TheVariants as w
use Rattle.px_tree.specs.declared.Sign.{Sign}
use Rattle.px_tree.specs.declared.Sign.TheVariants as sign
use Rattle.px_tree.specs.declared.Expr.{Expr}
use Rattle.px_words.specs.Words.{binary_sign, level}
use Rattle.px_parse.specs.Grammar as g
use Rattle.px_parse.specs.Grammar.{SpellsExpression}
use Rattle.px_parse.specs.Reading.{State, Reads, next_word, postfix_on, postfixes, operand, operated, operator_on, operators}
use Rattle.px_parse.proofs.FirstWords.{test_fails}

-- no lexeme with which a postfix goes on
pub record StopsPostfix (rest : List Lexeme) : Type 0 where
  pub no_dot : next_word rest ≡ w.Dot → ⊥
  pub no_bracket : next_word rest ≡ w.OpenBracket → ⊥
  pub no_open : next_word rest ≡ w.Open → ⊥

-- no lexeme with which an expression goes on
pub record Stops (rest : List Lexeme) : Type 0 where
  pub postfix : StopsPostfix rest
  pub no_sign : binary_sign (next_word rest) ≡ None

-- an operator, if it is one, that is looser than a level
abbrev pub Looser : ℕ → Option Sign → Type 0
Looser k None = Unit {0}
Looser k (Some op) = level op < k

pub looser_still : (k m : ℕ) (found : Option Sign) → k ≤ m → Looser k found → Looser m found
looser_still k m None h i = tt
looser_still k m (Some op) h i = omega (arith, h, i)

pub no_sign_is_looser : (k : ℕ) (found : Option Sign) → found ≡ None → Looser k found
no_sign_is_looser k found h = subst (Looser k) (sym h) tt

-- what stops by its word
pub word_stops : (word : Word) (rest : List Lexeme) → next_word rest ≡ word → (word ≡ w.Dot → ⊥) → (word ≡ w.OpenBracket → ⊥) → (word ≡ w.Open → ⊥) → binary_sign word ≡ None → Stops rest
word_stops word rest h i j k l = record {
  postfix = record { no_dot = λ z. i (sym h ∙ z); no_bracket = λ z. j (sym h ∙ z); no_open = λ z. k (sym h ∙ z) };
  no_sign = ap binary_sign h ∙ l;
}

-- ---- levels

pub level_is_positive : (op : Sign) → 1 ≤ level op
level_is_positive sign.Either = omega arith
level_is_positive sign.Both = omega arith
level_is_positive sign.Or = omega arith
level_is_positive _ = omega arith

pub index_is_positive : (source : List ℕ) (k : ℕ) (e : Expr) (xs : List Lexeme) → SpellsExpression source k e xs → 1 ≤ k
index_is_positive source _ _ _ (g.SpellsExpression.operand s) = omega arith
index_is_positive source _ _ _ (g.SpellsExpression.binary at op k m l r ls rs h i j s t) = level_is_positive op

pub at_least : (a b : ℕ) → a ≤ b → nat_le a b ≡ true
at_least a b h = le-leb a b h

not_at_least : (a b : ℕ) → b < a → nat_le a b ≡ false
not_at_least a b h = lt-leb a b h

-- ---- lengths

pub rest_is_no_longer : (xs rest : List Lexeme) → length rest ≤ length (xs ++ rest)
rest_is_no_longer xs rest = let a = length-append xs rest in omega (arith, a)

-- ---- the ends of loops

nothing_follows : (source : List ℕ) (inner : Reads Expr) (more : Expr → Reads Expr) (e : Expr) (word : Word) → (word ≡ w.Dot → ⊥) → (word ≡ w.OpenBracket → ⊥) → postfix_on source inner more e word ≡ (λ s. Some (e, s))
nothing_follows source inner more e w.Dot h i = absurd (h refl)
nothing_follows source inner more e w.OpenBracket h i = absurd (i refl)
nothing_follows source inner more e _ h i = refl

pub postfixes_end : (source : List ℕ) (inner : Reads Expr) (n : ℕ) (e : Expr) (rest : List Lexeme) → length rest < n → StopsPostfix rest → postfixes source inner n e rest ≡ Some (e, rest)
unfolding postfixes
postfixes_end source inner zero e rest h stops = absurd (omega (arith, h))
postfixes_end source inner (suc n) e rest h stops = ap (λ (p : Reads Expr). p rest) (nothing_follows source inner (postfixes source inner n) e (next_word rest) stops.no_dot stops.no_bracket)

operator_ends : (right : Reads Expr) (more : ℕ → Expr → Reads Expr) (least : ℕ) (left : Expr) (found : Option Sign) (s : State) → Looser least found → operator_on right more least left found s ≡ Some (left, s)
operator_ends right more least left None s h = refl
operator_ends right more least left (Some op) s h = test_fails (λ _. nat_le least (level op)) (operated right more least left op) (λ z. Some (left, z)) s (not_at_least least (level op) h)

pub operators_end : (source : List ℕ) (inner : Reads Expr) (n least : ℕ) (e : Expr) (rest : List Lexeme) → length rest < n → Looser least (binary_sign (next_word rest)) → operators source inner n least e rest ≡ Some (e, rest)
unfolding operators
operators_end source inner zero least e rest h i = absurd (omega (arith, h))
operators_end source inner (suc n) least e rest h i = operator_ends (operand source inner n) (operators source inner n) least e (binary_sign (next_word rest)) rest i
