-- The words of a line.
use Rattle.std.specs.Prelude.{ℕ, ◌==◌, Bool, true, false, List, [], ◌∷◌, if◌then◌else◌}
use Rattle.px_job.specs.Lines.{with_byte}
use Rattle.px_job.specs.declared.words.Place.{Place}
use Rattle.px_job.specs.declared.words.Place.TheVariants.{Between, Plain, Quoted, Escaped}

-- where the line stands behind a byte: a quote at the front of a word begins a text, which goes on to the next quote with no backslash before it
abbrev pub place_after : Place → ℕ → Place
place_after Between byte = if byte == 32 then Between else if byte == 34 then Quoted else Plain
place_after Plain byte = if byte == 32 then Between else Plain
place_after Quoted byte = if byte == 34 then Plain else if byte == 92 then Escaped else Quoted
place_after Escaped byte = Quoted

abbrev pub is_between : Place → Bool
is_between Between = true
is_between _ = false

-- the words behind a place where the word ends, if there was one
abbrev pub ended : Place → List (List ℕ) → List (List ℕ)
ended Between words = words
ended _ words = [] ∷ words

-- the words behind a place, of which the first may have begun before it
abbrev pub words_from : Place → List ℕ → List (List ℕ)
words_from place [] = ended place []
words_from place (byte ∷ bytes) = if is_between (place_after place byte) then ended place (words_from Between bytes) else with_byte byte (words_from (place_after place byte) bytes)

-- the pieces between the spaces that stand in no text
abbrev pub words_of : List ℕ → List (List ℕ)
words_of line = words_from Between line

-- the first word, empty where there is none
abbrev pub first : List (List ℕ) → List ℕ
first [] = []
first (word ∷ words) = word
