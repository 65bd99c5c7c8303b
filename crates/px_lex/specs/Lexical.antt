-- The lexical grammar: what a separator is, and what a token of each kind is (JLS SE 8, chapter 3, of which this is a part).
use Rattle.std.specs.Prelude.{◌≡◌, ℕ, ◌+◌, ◌<◌, ◌==◌, Bool, true, false, not, ◌&&◌, ◌||◌, ◌⊎◌, List, [], ◌∷◌, ◌++◌, length, take, drop, codes}
use Rattle.std.specs.List.{list_all, list_any}
use Rattle.std.specs.Str.{bytes_eq}
use Rattle.px_lex.specs.declared.token.TokenKind.{TokenKind}
use Rattle.px_lex.specs.declared.token.TokenKind.TheVariants.{Id, Key, Number, Str, Sign, Bad, End}
use Rattle.px_lex.specs.declared.piece.Piece.{Piece}
use Rattle.px_lex.specs.declared.piece.Piece.TheVariants.{Between, Token}
use Rattle.px_lex.specs.Keywords.{is_reserved}
pub use Rattle.px_lex.specs.Names.{is_word_byte}
use Rattle.px_lex.specs.Pieces.{is_blank, size_of}
use Rattle.px_lex.specs.declared.token.Token.{Token as TokenData}
use Rattle.px_lex.specs.Cutting.{token_of, shown, lines_in}
use Rattle.px_lex.specs.Scanning.{is_letter, is_digit, is_legal}

-- a letter, `_` or `$`, and behind it such and digits
abbrev pub IsWord : List ℕ → Type 0
IsWord [] = ⊥
IsWord (b ∷ bs) = (is_letter b ≡ true) × (list_all is_word_byte bs ≡ true)

-- `0`, or a digit that isn't 0 and further digits
abbrev pub IsDecimal : List ℕ → Type 0
IsDecimal [] = ⊥
IsDecimal (b ∷ bs) = ((b ≡ 48) × (bs ≡ [])) ⊎ ((is_digit b ≡ true) × ((b == 48) ≡ false) × (list_all is_digit bs ≡ true))

-- `L` or `l`
abbrev pub is_long_mark : ℕ → Bool
is_long_mark b = (b == 76) || (b == 108)

abbrev pub IsNumber : List ℕ → Type 0
IsNumber front = IsDecimal front ⊎ ((digits : List ℕ) × (mark : ℕ) × IsDecimal digits × (is_long_mark mark ≡ true) × (front ≡ digits ++ mark ∷ []))

-- a byte of a string literal that stands for itself: a legal byte but `"`, `\` and LF
abbrev pub is_plain : ℕ → Bool
is_plain b = is_legal b && (not (b == 34) && (not (b == 92) && not (b == 10)))

-- `n`, `t`, `"` or `\`
abbrev pub is_escape : ℕ → Bool
is_escape b = (b == 110) || (b == 116) || (b == 34) || (b == 92)

pub data IsTextBody : List ℕ → Type 0 where
  nothing : IsTextBody []
  plain : (b : ℕ) (bs : List ℕ) → is_plain b ≡ true → IsTextBody bs → IsTextBody (b ∷ bs)
  escape : (a b : ℕ) (bs : List ℕ) → a ≡ 92 → is_escape b ≡ true → IsTextBody bs → IsTextBody (a ∷ b ∷ bs)

abbrev pub IsText : List ℕ → Type 0
IsText front = (body : List ℕ) × IsTextBody body × (front ≡ 34 ∷ body ++ 34 ∷ [])

abbrev pub signs : List (List ℕ)
signs =
    codes "{" ∷ codes "}" ∷ codes "(" ∷ codes ")" ∷ codes "[" ∷ codes "]" ∷ codes "," ∷ codes ";" ∷ codes "." ∷ codes "~"
    ∷ codes "+" ∷ codes "++" ∷ codes "+=" ∷ codes "-" ∷ codes "--" ∷ codes "-=" ∷ codes "&" ∷ codes "&&" ∷ codes "&=" ∷ codes "|" ∷ codes "||" ∷ codes "|="
    ∷ codes "*" ∷ codes "*=" ∷ codes "/" ∷ codes "/=" ∷ codes "%" ∷ codes "%=" ∷ codes "^" ∷ codes "^=" ∷ codes "=" ∷ codes "==" ∷ codes "!" ∷ codes "!="
    ∷ codes "<" ∷ codes "<<" ∷ codes "<=" ∷ codes "<<=" ∷ codes ">" ∷ codes ">>" ∷ codes ">>>" ∷ codes ">=" ∷ codes ">>=" ∷ codes ">>>=" ∷ []

abbrev pub is_sign : List ℕ → Bool
is_sign front = list_any (bytes_eq front) signs

abbrev pub IsToken : TokenKind → List ℕ → Type 0
IsToken Id front = IsWord front × (is_reserved front ≡ false)
IsToken Key front = IsWord front × (is_reserved front ≡ true)
IsToken Number front = IsNumber front
IsToken Str front = IsText front
IsToken Sign front = is_sign front ≡ true
IsToken Bad front = ⊥
IsToken End front = ⊥

abbrev pub is_line_byte : ℕ → Bool
is_line_byte b = is_legal b && not (b == 10)

-- the text ends here, or its line does
abbrev pub EndsLine : List ℕ → Type 0
EndsLine [] = Unit {0}
EndsLine (b ∷ bs) = b ≡ 10

abbrev pub begins_with_slash : List ℕ → Bool
begins_with_slash [] = false
begins_with_slash (b ∷ bs) = b == 47

-- a `*/` stands somewhere
abbrev pub holds_close : List ℕ → Bool
holds_close [] = false
holds_close (b ∷ bs) = ((b == 42) && begins_with_slash bs) || holds_close bs

-- what separates tokens, with what follows it: one blank, a `//` to the end of its line, or a `/*` to the next `*/`
pub data IsSeparator (front rest : List ℕ) : Type 0 where
  blank : (b : ℕ) → is_blank b ≡ true → front ≡ b ∷ [] → IsSeparator front rest
  line : (body : List ℕ) → list_all is_line_byte body ≡ true → EndsLine rest → front ≡ 47 ∷ 47 ∷ body → IsSeparator front rest
  block : (body : List ℕ) → list_all is_legal body ≡ true → holds_close body ≡ false → front ≡ 47 ∷ 42 ∷ body ++ 42 ∷ 47 ∷ [] → IsSeparator front rest

-- a front of a text is such a piece
abbrev pub IsSpelled : Piece → List ℕ → List ℕ → Type 0
IsSpelled (Between n) front rest = (length front ≡ n) × IsSeparator front rest
IsSpelled (Token k n) front rest = (length front ≡ n) × IsToken k front

abbrev pub NoPiece : List ℕ → Type 0
NoPiece bs = (q : Piece) (front rest : List ℕ) → bs ≡ front ++ rest → IsSpelled q front rest → ⊥

-- each front that is a separator or a token is shorter, or it is this piece
abbrev pub IsLongest : Piece → List ℕ → Type 0
IsLongest p bs = (q : Piece) (front rest : List ℕ) → bs ≡ front ++ rest → IsSpelled q front rest → (p ≡ q) ⊎ (length front < size_of p)

-- the longest front of the text that is a separator or a token, and one bad byte where there is none
abbrev pub IsFirstPiece : Piece → List ℕ → Type 0
IsFirstPiece (Token Bad n) bs = (n ≡ 1) × NoPiece bs
IsFirstPiece p bs = IsSpelled p (take (size_of p) bs) (drop (size_of p) bs) × IsLongest p bs

-- The tokens of what is left of a text, from a place and a line on: the text is cut into first pieces, which are shown
-- unless they are separators, and then comes its end.
pub data IsCut : ℕ → ℕ → List ℕ → List TokenData → Type 0 where
  ended : (from line : ℕ) → IsCut from line [] (token_of End from from line ∷ [])
  piece : (p : Piece) (from line : ℕ) (bs : List ℕ) (tokens : List TokenData) → 0 < length bs → IsFirstPiece p bs
      → IsCut (from + size_of p) (line + lines_in (take (size_of p) bs)) (drop (size_of p) bs) tokens
      → IsCut from line bs (shown p from line ++ tokens)
