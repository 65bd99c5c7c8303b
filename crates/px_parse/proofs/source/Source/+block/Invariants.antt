use Rattle.std.proofs.Common.{◌≡◌, ◌≤◌, ◌<◌, ◌-◌, ◌*◌, ◌+◌, ℕ, [], length}
use Rattle.px_words.specs.declared.lexeme.Word.TheVariants as w
use Rattle.px_parse.specs.Reading.{repeated, all_while, sees_no, item, statement}
use Rattle.px_parse.proofs.source.Source.+block.Given as goal

abbrev pub decreases-otherwise : goal.decreases-otherwise
decreases-otherwise l = 5 * length l.tokens.now.left.now

abbrev pub decreases-conditional : goal.decreases-conditional
decreases-conditional l = 5 * length l.tokens.now.left.now

abbrev pub decreases-while_loop : goal.decreases-while_loop
decreases-while_loop l = 5 * length l.tokens.now.left.now

abbrev pub decreases-for_loop : goal.decreases-for_loop
decreases-for_loop l = 5 * length l.tokens.now.left.now

abbrev pub decreases-block : goal.decreases-block
decreases-block l = 5 * length l.tokens.now.left.now

abbrev pub decreases-braced : goal.decreases-braced
decreases-braced l = 5 * length l.tokens.now.left.now + 1

abbrev pub decreases-statement : goal.decreases-statement
decreases-statement l = 5 * length l.tokens.now.left.now + 2

abbrev pub decreases-boxed_statement : goal.decreases-boxed_statement
decreases-boxed_statement l = 5 * length l.tokens.now.left.now + 3

abbrev pub decreases-item : goal.decreases-item
decreases-item l = 5 * length l.tokens.now.left.now + 3

abbrev pub decreases-items : goal.decreases-items
decreases-items l = 5 * length l.tokens.now.left.now + 4

-- the turns that are left go on from what was found to what all turns give
abbrev pub invariant-items-loop-turn : goal.invariant-items-loop-turn
invariant-items-loop-turn l =
    record {
      fewer : length l.tokens.left.now ≤ length l.fn.tokens.left.now;
      same : (n : ℕ) → length l.fn.tokens.left.now < n → all_while (sees_no w.CloseBrace) (item l.self.bytes.now (statement l.self.bytes.now n)) [] l.fn.tokens.left.now ≡ repeated (sees_no w.CloseBrace) (item l.self.bytes.now (statement l.self.bytes.now n)) (l._turn-end - l._turn) l.items l.tokens.left.now;
    }
