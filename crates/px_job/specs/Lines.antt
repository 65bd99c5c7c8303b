-- The lines of a file.
use Rattle.std.specs.Prelude.{ℕ, ◌==◌, Bool, false, ◌&&◌, List, [], ◌∷◌, if◌then◌else◌}

-- a byte at the front of the first piece
abbrev pub with_byte : ℕ → List (List ℕ) → List (List ℕ)
with_byte byte [] = (byte ∷ []) ∷ []
with_byte byte (piece ∷ pieces) = (byte ∷ piece) ∷ pieces

abbrev pub begins_with : ℕ → List ℕ → Bool
begins_with byte [] = false
begins_with byte (first ∷ rest) = first == byte

-- how many bytes end a line here: an LF, or a CR and an LF
abbrev pub end_len : List ℕ → ℕ
end_len [] = 0
end_len (byte ∷ bytes) = if byte == 10 then 1 else if (byte == 13) && begins_with 10 bytes then 2 else 0

-- LF ends a line, and a CR right before it belongs to no line. The last line may lack its LF.
abbrev pub lines_of : List ℕ → List (List ℕ)
lines_of [] = []
lines_of (byte ∷ bytes) = if byte == 10 then [] ∷ lines_of bytes else if (byte == 13) && begins_with 10 bytes then lines_of bytes else with_byte byte (lines_of bytes)
