-- The lexemes, token by token.
use Rattle.std.proofs.Common.{◌≡◌, ℕ, ◌+◌, ◌<◌, List, [], ◌∷◌, ◌++◌, length, take, get_or, ap, sym, ◌∙◌, arith}
use Rattle.std.proofs.lemmas.List.{take_more}
use Rattle.std.proofs.lemmas.Grind.{common_steps}
use Rattle.px_lex.specs.declared.token.Token.{Token}
use Rattle.px_words.specs.declared.lexeme.Lexeme.{Lexeme}
use Rattle.px_words.specs.Lexemes.{lexeme_of, lexemes_from, lexemes_of}

from_push : (bytes : List ℕ) (number n : ℕ) (tokens : List Token) (token : Token) → n ≡ number + length tokens → lexemes_from bytes number (tokens ++ token ∷ []) ≡ lexemes_from bytes number tokens ++ lexeme_of bytes n token ∷ []
from_push bytes number n [] token e = ap (λ (m : ℕ). lexeme_of bytes m token ∷ []) (omega arith)
from_push bytes number n (t ∷ ts) token e = ap (λ (ls : List Lexeme). lexeme_of bytes number t ∷ ls) (from_push bytes (number + 1) n ts token (omega arith))

-- one more token
pub of_push : (bytes : List ℕ) (n : ℕ) (tokens : List Token) (token : Token) → n ≡ length tokens → lexemes_of bytes (tokens ++ token ∷ []) ≡ lexemes_of bytes tokens ++ lexeme_of bytes n token ∷ []
of_push bytes n tokens token e = from_push bytes 0 n tokens token (omega arith)

pub of_more : (bytes : List ℕ) (tokens : List Token) (n : ℕ) (d : Token) → n < length tokens → lexemes_of bytes (take (n + 1) tokens) ≡ lexemes_of bytes (take n tokens) ++ lexeme_of bytes n (get_or tokens n d) ∷ []
of_more bytes tokens n d h = ap (lexemes_of bytes) (take_more tokens n d h) ∙ of_push bytes n (take n tokens) (get_or tokens n d) (grind (arith, common_steps))

-- a step of the loop over the tokens
pub lexemes_more : (now old : List Lexeme) (lexeme : Lexeme) (bytes : List ℕ) (tokens : List Token) (n : ℕ) (d : Token) → n < length tokens → now ≡ old ++ lexeme ∷ [] → lexeme ≡ lexeme_of bytes n (get_or tokens n d) → old ≡ lexemes_of bytes (take n tokens) → now ≡ lexemes_of bytes (take (n + 1) tokens)
lexemes_more now old lexeme bytes tokens n d h put is before = put ∙ rw (before, is) (sym (of_more bytes tokens n d h))
