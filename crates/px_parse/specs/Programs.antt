-- What the program of a text is.
use Rattle.std.specs.Prelude.{◌≡◌, ℕ, List, Option, Some, None}
use Rattle.px_lex.specs.Cutting.{tokens_of}
use Rattle.px_words.specs.Lexemes.{lexemes_of}
use Rattle.px_tree.specs.declared.Program.{Program}
use Rattle.px_parse.specs.declared.whole.Declared.{Declared}
use Rattle.px_parse.specs.Grammar.{SpellsProgram}
use Rattle.px_parse.specs.Places.{IsShallow, IsRefusedAt}
use Rattle.px_tree.specs.Numbering.{numbered_classes}

-- The text's lexemes spell tables and classes, and nest no deeper than programs may; the program is those, its classes numbered.
pub record IsProgram (bytes : List ℕ) (program : Program) : Type 0 where
  pub tokens : program.tokens ≡ tokens_of bytes
  pub declared : Declared
  pub spells : SpellsProgram bytes declared (lexemes_of bytes (tokens_of bytes))
  pub shallow : IsShallow (lexemes_of bytes (tokens_of bytes))
  pub tables : program.tables ≡ declared.tables
  pub classes : program.classes ≡ numbered_classes declared.classes

-- The text's lexemes spell tables and classes, and nest no deeper than programs may.
pub record IsProgramText (bytes : List ℕ) : Type 0 where
  pub declared : Declared
  pub spells : SpellsProgram bytes declared (lexemes_of bytes (tokens_of bytes))
  pub shallow : IsShallow (lexemes_of bytes (tokens_of bytes))

-- a text is a program, or it is refused at a line
abbrev pub IsJudged : List ℕ → Option ℕ → Type 0
IsJudged bytes None = IsProgramText bytes
IsJudged bytes (Some line) = IsRefusedAt bytes line
