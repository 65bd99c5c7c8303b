use Rattle.std.proofs.Common.{◌≡◌, ◌≤◌, ◌-◌, []}
use Rattle.px_words.specs.declared.lexeme.Word.TheVariants as w
use Rattle.px_parse.specs.Reading.{class, repeated, all_while, sees_no}
use Rattle.px_parse.proofs.source.Source.classes.Given as goal

-- the turns that are left go on from what was found to what all turns give
abbrev pub invariant-loop-turn : goal.invariant-loop-turn
invariant-loop-turn l =
    all_while (sees_no w.End) (class l.self.bytes.now) [] l.fn.tokens.left.now ≡ repeated (sees_no w.End) (class l.self.bytes.now) (l._turn-end - l._turn) l.classes l.tokens.left.now
