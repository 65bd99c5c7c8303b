use Rattle.std.proofs.Common.{◌≡◌, ◌≤◌, ◌-◌, []}
use Rattle.px_words.specs.declared.lexeme.Word.TheVariants as w
use Rattle.px_parse.specs.Reading.{table, repeated, all_while, sees}
use Rattle.px_parse.proofs.source.Source.tables.Given as goal

-- the turns that are left go on from what was found to what all turns give
abbrev pub invariant-loop-turn : goal.invariant-loop-turn
invariant-loop-turn l =
    all_while (sees w.Create) (table l.self.bytes.now) [] l.fn.tokens.left.now ≡ repeated (sees w.Create) (table l.self.bytes.now) (l._turn-end - l._turn) l.tables l.tokens.left.now
