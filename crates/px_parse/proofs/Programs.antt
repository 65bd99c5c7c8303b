-- A text has one program, or one line at which it is refused.
use Rattle.std.proofs.Common.{◌≡◌, ℕ, List, Option, Some, None, sym, ap, ◌∙◌, subst}
use Rattle.px_lex.specs.declared.token.Token.{Token}
use Rattle.px_words.specs.declared.lexeme.Lexeme.{Lexeme}
use Rattle.px_accept.specs.declared.role.Role.{Role}
use Rattle.px_accept.specs.Place as accept
use Rattle.px_words.specs.Roles.{roles_of}
use Rattle.px_lex.specs.Cutting.{tokens_of}
use Rattle.px_words.specs.Lexemes.{lexemes_of}
use Rattle.px_tree.specs.declared.Program.{Program}
use Rattle.px_parse.specs.declared.whole.Declared.{Declared}
use Rattle.px_tree.specs.Numbering.{numbered_classes}
use Rattle.px_parse.specs.Places.{IsRefusedAt, line_at}
use Rattle.px_parse.specs.Programs.{IsProgram, IsProgramText}
use Rattle.px_parse.proofs.CompletePrograms.{one_tree}
use Rattle.px_parse.proofs.Places.{one_place, refused_nowhere, refused_place, accepted_tree, accepted_shallow}

pub one_program : (bytes : List ℕ) (p q : Program) → IsProgram bytes p → IsProgram bytes q → p ≡ q
one_program bytes p q is also =
    let d = one_tree is.spells also.spells in
    let ts = is.tables ∙ ap (λ (d : Declared). d.tables) d ∙ sym also.tables in
    let cs = is.classes ∙ ap (λ (d : Declared). numbered_classes d.classes) d ∙ sym also.classes in
    let ks = is.tokens ∙ sym also.tokens in
    λ i. record { tables = ts i; classes = cs i; tokens = ks i }

pub one_line : (bytes : List ℕ) (l m : ℕ) → IsRefusedAt bytes l → IsRefusedAt bytes m → l ≡ m
one_line bytes l m at also =
    at.is_line ∙ ap (line_at (tokens_of bytes)) (one_place bytes (lexemes_of bytes (tokens_of bytes)) at.place also.place at.is_place also.is_place) ∙ sym also.is_line

pub no_program : (bytes : List ℕ) (l : ℕ) (p : Program) → IsRefusedAt bytes l → IsProgram bytes p → ⊥
no_program bytes l p at is = refused_nowhere bytes (lexemes_of bytes (tokens_of bytes)) at.place is.declared at.is_place is.spells is.shallow

-- ---- what `refused_line` answers

-- the acceptor refused the roles of the text's lexemes
pub refused_at : (bytes : List ℕ) (ts : List Token) (xs : List Lexeme) (rs : List Role) (k line : ℕ) → ts ≡ tokens_of bytes → xs ≡ lexemes_of bytes ts → rs ≡ roles_of xs → accept.Refused rs k → line ≡ line_at ts k → IsRefusedAt bytes line
refused_at bytes ts xs rs k line et ex er refused el =
    let roles : rs ≡ roles_of (lexemes_of bytes (tokens_of bytes)) = er ∙ ap roles_of (ex ∙ ap (lexemes_of bytes) et) in
    record { place = k; is_place = refused_place bytes (lexemes_of bytes (tokens_of bytes)) k (subst (λ (z : List Role). accept.Refused z k) roles refused); is_line = el ∙ ap (λ (z : List Token). line_at z k) et }

-- the acceptor took them
pub accepted_text : (bytes : List ℕ) (ts : List Token) (xs : List Lexeme) (rs : List Role) → ts ≡ tokens_of bytes → xs ≡ lexemes_of bytes ts → rs ≡ roles_of xs → accept.Accepted rs → IsProgramText bytes
accepted_text bytes ts xs rs et ex er accepted =
    let ys = lexemes_of bytes (tokens_of bytes) in
    let a : accept.Accepted (roles_of ys) = subst accept.Accepted (er ∙ ap roles_of (ex ∙ ap (lexemes_of bytes) et)) accepted in
    let t = accepted_tree bytes ys a in
    record { declared = t.0; spells = t.1; shallow = accepted_shallow ys a }

pub accepts : (rs : List Role) (place : Option ℕ) → accept.IsPlace rs place → place ≡ None → accept.Accepted rs
accepts rs place is h = subst (accept.IsPlace rs) h is

pub refuses : (rs : List Role) (place : Option ℕ) (at : ℕ) → accept.IsPlace rs place → place ≡ Some at → accept.Refused rs at
refuses rs place at is h = subst (accept.IsPlace rs) h is
