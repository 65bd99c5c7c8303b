use Rattle.std.proofs.Common.{List, Err, sym, ap, ◌∙◌, subst}
use Rattle.px_words.specs.declared.lexeme.Lexeme.{Lexeme}
use Rattle.px_parse.specs.Grammar.{SpellsProgram}
use Rattle.px_parse.proofs.Parsing.{found_tree, never_unreadable}
use Rattle.px_parse.proofs.program.declared.Goals as goal

pub returns-in-Ok : goal.returns-in-Ok
returns-in-Ok c =
    let t = c.requires.text in
    subst (λ (xs : List Lexeme). SpellsProgram c.args.bytes.now c.in-Ok.declared xs) c.requires.lexemes
    (found_tree c.args.bytes.now c.args.lexemes.now t.declared c.in-Ok.declared c.whole.result (subst (λ (xs : List Lexeme). SpellsProgram c.args.bytes.now t.declared xs) (sym c.requires.lexemes) t.spells) c.whole.ensures c.in-Ok.is)

pub unreachable-requires : goal.unreachable-requires
unreachable-requires c =
    let t = c.requires.text in
    never_unreadable c.args.bytes.now c.args.lexemes.now t.declared c.whole.result (subst (λ (xs : List Lexeme). SpellsProgram c.args.bytes.now t.declared xs) (sym c.requires.lexemes) t.spells) c.whole.ensures
    (c.in-Err-Unreadable.is ∙ ap Err c.in-Err-Unreadable.field-0-is)
