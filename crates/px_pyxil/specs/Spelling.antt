-- How a tree is spelled.
use Rattle.std.specs.Prelude.{ℕ, List, [], ◌∷◌, ◌++◌, codes, decimal}
use Rattle.std.specs.List.{flat_map}
use Rattle.px_pyxil.specs.declared.line.Line.{Line}
use Rattle.px_pyxil.specs.declared.line.Line.TheVariants as line
use Rattle.px_pyxil.specs.declared.tree.Pyxil.{Pyxil}
use Rattle.px_pyxil.specs.Words.{side_name, member_text, operand_text, words_of, send_name}
use Rattle.px_pyxil.specs.Lines.{lines_of}

-- words with a space before each
abbrev pub spaced : List (List ℕ) → List ℕ
spaced [] = []
spaced (word ∷ words) = 32 ∷ (word ++ spaced words)

-- words with one space between each two
abbrev pub words : List ℕ → List (List ℕ) → List ℕ
words first rest = first ++ spaced rest

-- a line without its line feed
abbrev pub line_words : Line → List ℕ
line_words (line.Field field) = words (codes "field") (member_text field.field ∷ side_name field.side ∷ [])
line_words (line.Site site) = words (codes "site") (decimal site.number ∷ side_name site.side ∷ [])
line_words (line.Method head) = words (codes "method") (decimal head.at.node ∷ side_name head.at.side ∷ member_text head.method ∷ decimal head.slots ∷ [])
line_words (line.Do at word) = words (decimal at.node) (side_name at.side ∷ words_of word)
line_words (line.Send send) = words (send_name send.kind) (operand_text send.object ∷ [])
line_words (line.If at test) = words (decimal at.node) (side_name at.side ∷ codes "if" ∷ operand_text test ∷ [])
line_words line.Else = codes "else"
line_words line.Loop = codes "loop"
line_words (line.Test at test) = words (decimal at.node) (side_name at.side ∷ codes "test" ∷ operand_text test ∷ [])
line_words line.End = codes "end"

abbrev pub line_text : Line → List ℕ
line_text line = line_words line ++ 10 ∷ []

-- the text of a tree
unfoldable pub text_of : Pyxil → List ℕ
text_of pyxil = flat_map line_text (lines_of pyxil)
