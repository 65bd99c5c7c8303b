-- How lines stand in a file.
use Rattle.std.specs.Prelude.{◌≡◌, ℕ, ◌==◌, Bool, true, false, not, List, [], ◌∷◌, ◌++◌}
use Rattle.std.specs.List.{list_all}
use Rattle.px_job.specs.Lines.{lines_of}

-- no byte of the line is an LF
abbrev pub IsLine : List ℕ → Type 0
IsLine line = list_all (λ byte. not (byte == 10)) line ≡ true

-- the last byte is a CR
abbrev pub ends_with_return : List ℕ → Bool
ends_with_return [] = false
ends_with_return (byte ∷ []) = byte == 13
ends_with_return (byte ∷ next ∷ line) = ends_with_return (next ∷ line)

-- each line is ended by an LF, or by a CR and an LF, but the last, where no LF stands behind it
pub data Filed : List (List ℕ) → List ℕ → Type 0 where
  nothing : Filed [] []
  last : (byte : ℕ) (line : List ℕ) → IsLine (byte ∷ line) → Filed ((byte ∷ line) ∷ []) (byte ∷ line)
  fed : {lines : List (List ℕ)} (line rest bytes : List ℕ) → IsLine line → ends_with_return line ≡ false → bytes ≡ line ++ 10 ∷ rest → Filed lines rest → Filed (line ∷ lines) bytes
  returned : {lines : List (List ℕ)} (line rest bytes : List ℕ) → IsLine line → bytes ≡ line ++ 13 ∷ 10 ∷ rest → Filed lines rest → Filed (line ∷ lines) bytes

-- the lines that are read are those of the file
abbrev pub LinesAreFiled : Type 0
LinesAreFiled = (bytes : List ℕ) (lines : List (List ℕ)) → (Filed lines bytes → lines_of bytes ≡ lines) × (lines_of bytes ≡ lines → Filed lines bytes)
