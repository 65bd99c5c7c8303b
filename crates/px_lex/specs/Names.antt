-- Words and identifiers (JLS SE 8, 3.8) of ASCII.
use Rattle.std.specs.Prelude.{ℕ, Bool, false, not, ◌&&◌, ◌||◌, List, [], ◌∷◌}
use Rattle.std.specs.List.{list_all}
use Rattle.px_lex.specs.Keywords.{is_reserved}
use Rattle.px_lex.specs.Scanning.{is_letter, is_digit}

abbrev pub is_word_byte : ℕ → Bool
is_word_byte b = is_letter b || is_digit b

-- a letter, `_` or `$`, and behind it such and digits
abbrev pub is_word : List ℕ → Bool
is_word [] = false
is_word (b ∷ bs) = is_letter b && list_all is_word_byte bs

-- a word that isn't reserved
unfoldable pub is_identifier : List ℕ → Bool
is_identifier word = is_word word && not (is_reserved word)
