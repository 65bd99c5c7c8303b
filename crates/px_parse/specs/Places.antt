-- Where a text stops being the beginning of a program.
use Rattle.std.specs.Prelude.{◌≡◌, ℕ, ◌+◌, ◌-◌, ◌<◌, ◌≤◌, ◌⊎◌, List, ◌++◌, length, map, take}
use Rattle.std.specs.List.{slice_index_or}
use Rattle.px_lex.specs.declared.token.Token.{Token}
use Rattle.px_words.specs.declared.lexeme.Lexeme.{Lexeme}
use Rattle.px_lex.specs.Cutting.{tokens_of}
use Rattle.px_words.specs.Lexemes.{lexemes_of}
use Rattle.px_accept.specs.Place as accept
use Rattle.px_parse.specs.declared.whole.Declared.{Declared}
use Rattle.px_parse.specs.Grammar.{SpellsProgram}
use Rattle.px_words.specs.Roles.{roles_of}

-- some program begins with these lexemes
pub record BeginsProgram (source : List ℕ) (xs : List Lexeme) : Type 0 where
  pub more : List Lexeme
  pub declared : Declared
  pub spells : SpellsProgram source declared (xs ++ more)

-- The nesting at the last of these lexemes is above the limit, in the reading of them that nests least.
abbrev pub IsDeep : List Lexeme → Type 0
IsDeep xs = accept.IsDeep (roles_of xs)

-- at no lexeme is it
abbrev pub IsShallow : List Lexeme → Type 0
IsShallow xs = (j : ℕ) → IsDeep (take j xs) → ⊥

-- The first k lexemes begin some program, and nest no deeper than programs may. No program begins with one more of them, or it nests
-- deeper. Where there are no more, they aren't a program.
pub record IsPlace (source : List ℕ) (xs : List Lexeme) (k : ℕ) : Type 0 where
  pub within : k ≤ length xs
  pub front : BeginsProgram source (take k xs)
  pub shallow : (j : ℕ) → j ≤ k → IsDeep (take j xs) → ⊥
  pub here : k < length xs → (BeginsProgram source (take (k + 1) xs) → ⊥) ⊎ IsDeep (take (k + 1) xs)
  pub unended : k ≡ length xs → (declared : Declared) → SpellsProgram source declared xs → ⊥

abbrev pub line_of : Token → ℕ
line_of token = token.line

-- the line of the token with this number, or of the last one where there are no more
abbrev pub line_at : List Token → ℕ → ℕ
line_at tokens k = slice_index_or (map line_of tokens) k (slice_index_or (map line_of tokens) (length tokens - 1) 1)

-- The text is no program, and this line is that of the first token up to which no program begins so.
pub record IsRefusedAt (bytes : List ℕ) (line : ℕ) : Type 0 where
  pub place : ℕ
  pub is_place : IsPlace bytes (lexemes_of bytes (tokens_of bytes)) place
  pub is_line : line ≡ line_at (tokens_of bytes) place
