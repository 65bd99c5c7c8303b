-- Texts in quotes.
use Rattle.std.specs.Prelude.{ℕ, ◌==◌, Bool, true, false, ◌||◌, List, [], ◌∷◌, Option, Some, None, if◌then◌else◌}
use Rattle.std.specs.Option.{option_map}
use Rattle.px_job.specs.declared.texts.Step.{Step}
use Rattle.px_job.specs.declared.texts.Step.TheVariants.{Byte, Backslash, Close, Broken}

-- what the byte behind a backslash stands for
abbrev pub escaped_byte : ℕ → Step
escaped_byte byte = if byte == 110 then Byte 10 else if byte == 116 then Byte 9 else if (byte == 34) || (byte == 92) then Byte byte else Broken

-- what a byte is to the text, right behind a backslash or not
abbrev pub step_of : Bool → ℕ → Step
step_of true byte = escaped_byte byte
step_of false byte = if byte == 34 then Close else if byte == 92 then Backslash else Byte byte

-- the text, by what the first byte is, what stands behind it, and the text of that right behind a backslash and else
abbrev pub stepped : Step → List ℕ → Option (List ℕ) → Option (List ℕ) → Option (List ℕ)
stepped (Byte byte) rest behind_backslash plain = option_map (λ text. byte ∷ text) plain
stepped Backslash rest behind_backslash plain = behind_backslash
stepped Close [] behind_backslash plain = Some []
stepped Close (byte ∷ rest) behind_backslash plain = None
stepped Broken rest behind_backslash plain = None

-- the text that goes on here and ends with the word
abbrev pub text_from : Bool → List ℕ → Option (List ℕ)
text_from escaped [] = None
text_from escaped (byte ∷ rest) = stepped (step_of escaped byte) rest (text_from true rest) (text_from false rest)

-- the text that a word in quotes stands for
abbrev pub text_of : List ℕ → Option (List ℕ)
text_of [] = None
text_of (byte ∷ rest) = if byte == 34 then text_from false rest else None
