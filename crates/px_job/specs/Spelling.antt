-- How words are spelled in a line.
use Rattle.std.specs.Prelude.{◌≡◌, ℕ, ◌==◌, Bool, true, false, not, ◌&&◌, ◌||◌, List, [], ◌∷◌, ◌++◌, ◌⊎◌}
use Rattle.std.specs.List.{list_all, AllByRecursion}
use Rattle.std.specs.Option.{is_some}
use Rattle.px_job.specs.Lines.{begins_with}
use Rattle.px_job.specs.Words.{words_of}
use Rattle.px_job.specs.Texts.{text_of}

abbrev pub is_space : ℕ → Bool
is_space byte = byte == 32

-- one byte or more, no space among them, and no quote in front
abbrev pub is_plain : List ℕ → Bool
is_plain [] = false
is_plain (byte ∷ bytes) = not (byte == 34) && not (is_space byte) && list_all (λ other. not (is_space other)) bytes

-- a plain word, or a text in quotes
abbrev pub IsWord : List ℕ → Type 0
IsWord word = (is_plain word || is_some (text_of word)) ≡ true

-- the line ends here, or a space follows
abbrev pub Stops : List ℕ → Type 0
Stops rest = (rest ≡ []) ⊎ (begins_with 32 rest ≡ true)

-- the words stand in the line in their order, with one space or more between them, and spaces at either end
pub data Spelled : List (List ℕ) → List ℕ → Type 0 where
  nothing : Spelled [] []
  space : {words : List (List ℕ)} {line : List ℕ} → Spelled words line → Spelled words (32 ∷ line)
  word : {words : List (List ℕ)} (word rest line : List ℕ) → IsWord word → Stops rest → line ≡ word ++ rest → Spelled words rest → Spelled (word ∷ words) line

-- the words that are read are those that are spelled, if each of them is a plain word or a text
abbrev pub WordsAreSpelled : Type 0
WordsAreSpelled = (line : List ℕ) (words : List (List ℕ)) → (Spelled words line → words_of line ≡ words) × (AllByRecursion IsWord words → words_of line ≡ words → Spelled words line)
