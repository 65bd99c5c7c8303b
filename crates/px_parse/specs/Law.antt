-- Laws of the definitions.
use Rattle.std.specs.Prelude.{◌≡◌, ℕ, List, [], Some}
use Rattle.px_words.specs.declared.lexeme.Lexeme.{Lexeme}
use Rattle.px_parse.specs.declared.whole.Declared.{Declared}
use Rattle.px_parse.specs.Grammar.{SpellsProgram}
use Rattle.px_parse.specs.Reading.{program}
use Rattle.px_tree.specs.declared.Program.{Program}
use Rattle.px_parse.specs.Programs.{IsProgram}
use Rattle.px_parse.specs.Places.{IsRefusedAt}

-- A text has at most one program.
abbrev pub HasOneProgram : List ℕ → Type 0
HasOneProgram bytes = (p q : Program) → IsProgram bytes p → IsProgram bytes q → p ≡ q

-- A text is refused at one line, and only where it is no program.
pub record HasOneRefusal (bytes : List ℕ) : Type 0 where
  pub one_line : (l m : ℕ) → IsRefusedAt bytes l → IsRefusedAt bytes m → l ≡ m
  pub no_program : (l : ℕ) (p : Program) → IsRefusedAt bytes l → IsProgram bytes p → ⊥

-- Reading finds the tree that the lexemes spell.
abbrev pub IsFound : List ℕ → Type 0
IsFound source = (declared : Declared) (xs : List Lexeme) → SpellsProgram source declared xs → program source xs ≡ Some (declared, [])
