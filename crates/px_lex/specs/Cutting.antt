-- The tokens of a text.
use Rattle.std.specs.Prelude.{ℕ, zero, suc, ◌+◌, ◌==◌, List, [], ◌∷◌, ◌++◌, length, take, drop, count_by}
use Rattle.px_lex.specs.declared.token.TokenKind.{TokenKind}
use Rattle.px_lex.specs.declared.token.TokenKind.TheVariants.{End}
use Rattle.px_lex.specs.declared.piece.Piece.{Piece}
use Rattle.px_lex.specs.declared.piece.Piece.TheVariants.{Between, Token}
use Rattle.px_lex.specs.declared.token.Token.{Token as TokenData}
use Rattle.px_lex.specs.Pieces.{piece_of, size_of}

abbrev pub token_of : TokenKind → ℕ → ℕ → ℕ → TokenData
token_of k from to line = record { kind = k; from = from; to = to; line = line }

-- what a piece at a place puts among the tokens
abbrev pub shown : Piece → ℕ → ℕ → List TokenData
shown (Between n) from line = []
shown (Token k n) from line = token_of k from (from + n) line ∷ []

-- only LF ends a line
abbrev pub lines_in : List ℕ → ℕ
lines_in bs = count_by (λ b. b == 10) bs

-- the tokens of what is left, in at most n pieces
unfoldable pub cut : ℕ → ℕ → ℕ → List ℕ → List TokenData
cut n from line [] = token_of End from from line ∷ []
cut zero from line (b ∷ bs) = []
cut (suc n) from line (b ∷ bs) =
    shown (piece_of (b ∷ bs)) from line ++ cut n (from + size_of (piece_of (b ∷ bs))) (line + lines_in (take (size_of (piece_of (b ∷ bs))) (b ∷ bs))) (drop (size_of (piece_of (b ∷ bs))) (b ∷ bs))

-- the tokens and the bad bytes of a text, in order, and its end; each piece has a byte at least
abbrev pub tokens_of : List ℕ → List TokenData
tokens_of bytes = cut (length bytes) 0 1 bytes
