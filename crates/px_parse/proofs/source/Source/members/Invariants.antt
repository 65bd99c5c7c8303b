use Rattle.std.proofs.Common.{◌≡◌, ◌≤◌, ◌-◌, [], length}
use Rattle.px_words.specs.declared.lexeme.Word.TheVariants as w
use Rattle.px_parse.specs.Reading.{a_member, repeated, all_while, sees_no}
use Rattle.px_parse.proofs.source.Source.members.Given as goal

-- the turns that are left go on from what was found to what all turns give
abbrev pub invariant-loop-turn : goal.invariant-loop-turn
invariant-loop-turn l =
    record {
      fewer : length l.tokens.left.now ≤ length l.fn.tokens.left.now;
      same : all_while (sees_no w.CloseBrace) (a_member l.self.bytes.now) [] l.fn.tokens.left.now ≡ repeated (sees_no w.CloseBrace) (a_member l.self.bytes.now) (l._turn-end - l._turn) l.members l.tokens.left.now;
    }
