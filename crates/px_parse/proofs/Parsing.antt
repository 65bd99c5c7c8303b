-- What `parse` answers.
use Rattle.std.proofs.Common.{◌≡◌, ℕ, List, [], Option, Some, None, Result, Ok, Err, option_map, refl, sym, ap, ◌∙◌, subst}
use Rattle.px_lex.specs.Cutting.{tokens_of}
use Rattle.px_lex.specs.declared.token.Token.{Token}
use Rattle.px_accept.specs.declared.role.Role.{Role}
use Rattle.px_accept.specs.Place as accept
use Rattle.px_words.specs.declared.lexeme.Lexeme.{Lexeme}
use Rattle.px_parse.specs.declared.whole.Declared.{Declared}
use Rattle.px_parse.specs.declared.error.ReadError.{ReadError}
use Rattle.px_parse.specs.declared.error.ReadError.TheVariants.{Unreadable, NoMemory}
use Rattle.px_parse.specs.Grammar.{SpellsProgram}
use Rattle.px_words.specs.Lexemes.{lexemes_of}
use Rattle.px_parse.specs.Places.{line_at}
use Rattle.px_parse.specs.Programs.{IsProgramText, IsJudged}
use Rattle.px_parse.specs.Reading.{Read, program, Finds}
use Rattle.px_words.specs.Roles.{roles_of}
use Rattle.px_parse.proofs.CompletePrograms.{program_read}
use Rattle.px_parse.proofs.Programs.{refused_at, accepted_text}

-- the acceptor judged the roles of the text's lexemes
pub judged : (bytes : List ℕ) (ts : List Token) (xs : List Lexeme) (rs : List Role) (place line : Option ℕ) → ts ≡ tokens_of bytes → xs ≡ lexemes_of bytes ts → rs ≡ roles_of xs → accept.IsPlace rs place → line ≡ option_map (line_at ts) place → IsJudged bytes line
judged bytes ts xs rs None line et ex er is el = subst (IsJudged bytes) (sym el) (accepted_text bytes ts xs rs et ex er is)
judged bytes ts xs rs (Some at) line et ex er is el = subst (IsJudged bytes) (sym el) (refused_at bytes ts xs rs at (line_at ts at) et ex er is refl)

abbrev found_or : Declared → Read Declared → Declared
found_or d None = d
found_or d (Some x) = x.0

-- what is read of a program is what it declares
pub spelled : (bytes : List ℕ) (xs : List Lexeme) (d c : Declared) → SpellsProgram bytes d xs → program bytes xs ≡ Some (c, []) → SpellsProgram bytes c xs
spelled bytes xs d c h k = subst (λ (e : Declared). SpellsProgram bytes e xs) (ap (found_or d) (sym (program_read bytes d xs h) ∙ k)) h

pub found_tree : (bytes : List ℕ) (xs : List Lexeme) (d c : Declared) (result : Result Declared ReadError) → SpellsProgram bytes d xs → Finds (program bytes xs) result → result ≡ Ok c → SpellsProgram bytes c xs
found_tree bytes xs d c result h f e = let g : Finds (program bytes xs) (Ok c) = subst (Finds (program bytes xs)) e f in spelled bytes xs d c h g

-- reading finds each program
pub never_unreadable : (bytes : List ℕ) (xs : List Lexeme) (d : Declared) (result : Result Declared ReadError) → SpellsProgram bytes d xs → Finds (program bytes xs) result → result ≡ Err Unreadable → ⊥
never_unreadable bytes xs d result h f e = let g : Finds (program bytes xs) (Err Unreadable) = subst (Finds (program bytes xs)) e f in g d (program_read bytes d xs h)
