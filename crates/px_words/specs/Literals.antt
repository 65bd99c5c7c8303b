-- What literals stand for.
use Rattle.std.specs.Prelude.{ℕ, ◌-◌, ◌==◌, ◌||◌, Bool, true, false, List, [], ◌∷◌, length, take, drop, slice_index, if◌then◌else◌}

-- whether an integer literal ends in L or l
abbrev pub is_long : List ℕ → Bool
is_long spelling = let last = slice_index spelling (length spelling - 1) in last == 76 || last == 108

-- an integer literal without that letter
abbrev pub digits_of : List ℕ → List ℕ
digits_of spelling = if is_long spelling then take (length spelling - 1) spelling else spelling

-- the byte that a backslash and a letter stand for: LF, a tab, or the letter itself (JLS SE 8, 3.10.6)
abbrev pub escape_of : ℕ → ℕ
escape_of b = if b == 110 then 10 else (if b == 116 then 9 else b)

-- the bytes of a text, behind a backslash or not
abbrev pub text_from : Bool → List ℕ → List ℕ
text_from escaped [] = []
text_from true (b ∷ bs) = escape_of b ∷ text_from false bs
text_from false (b ∷ bs) = if b == 92 then text_from true bs else b ∷ text_from false bs

-- the text of a string literal, which stands between two quotes
abbrev pub text_in : List ℕ → List ℕ
text_in spelling = text_from false (take (length spelling - 2) (drop 1 spelling))
