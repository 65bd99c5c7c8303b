use Rattle.std.proofs.Common.{option_map, ap, ◌∙◌}
use Rattle.px_words.specs.Lexemes.{lexemes_of}
use Rattle.px_words.specs.Roles.{roles_of}
use Rattle.px_parse.specs.Places.{line_at}
use Rattle.px_parse.proofs.Parsing.{judged}
use Rattle.px_parse.proofs.program.judge.Goals as goal

pub returns-clause-lexemes : goal.returns-clause-lexemes
returns-clause-lexemes c = c.in_ok-lexemes.ensures ∙ ap (lexemes_of c.args.bytes.now) (c.deref.ensures.value ∙ c.in_ok-tokens.ensures.exact)

pub returns-clause-refused : goal.returns-clause-refused
returns-clause-refused c =
    judged c.args.bytes.now c.in_ok-tokens.tokens.items c.in_ok-lexemes.lexemes.items c.deref-3.result.now c.in_ok-place.place c.line_of-refused.result
    c.in_ok-tokens.ensures.exact
    (c.in_ok-lexemes.ensures ∙ ap (lexemes_of c.args.bytes.now) c.deref.ensures.value)
    (c.deref-3.ensures.value ∙ c.in_ok-roles.ensures ∙ ap roles_of c.deref-2.ensures.value)
    c.in_ok-place.ensures.place
    (c.line_of-refused.ensures ∙ ap (λ ts. option_map (line_at ts) c.in_ok-place.place) c.deref-4.ensures.value)
