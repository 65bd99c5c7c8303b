use Rattle.std.proofs.Common.{◌≡◌, ◌*◌, ◌+◌, ◌<◌, ◌≤◌, ℕ, length}
use Rattle.px_parse.specs.Reading.{expression, some_arguments, next_argument, repeated, sees}
use Rattle.px_words.specs.declared.lexeme.Word.TheVariants as w
use Rattle.px_parse.proofs.source.Source.+expression.Given as goal

abbrev pub decreases-primary : goal.decreases-primary
decreases-primary l = 7 * length l.tokens.now.left.now + 0

abbrev pub decreases-postfixes : goal.decreases-postfixes
decreases-postfixes l = 7 * length l.tokens.now.left.now + 0

abbrev pub decreases-operators : goal.decreases-operators
decreases-operators l = 7 * length l.tokens.now.left.now + 0

abbrev pub decreases-postfix : goal.decreases-postfix
decreases-postfix l = 7 * length l.tokens.now.left.now + 1

abbrev pub decreases-operand : goal.decreases-operand
decreases-operand l = 7 * length l.tokens.now.left.now + 2

abbrev pub decreases-expression : goal.decreases-expression
decreases-expression l = 7 * length l.tokens.now.left.now + 3

abbrev pub decreases-closed : goal.decreases-closed
decreases-closed l = 7 * length l.tokens.now.left.now + 4

abbrev pub decreases-some_arguments : goal.decreases-some_arguments
decreases-some_arguments l = 7 * length l.tokens.now.left.now + 4

abbrev pub decreases-arguments : goal.decreases-arguments
decreases-arguments l = 7 * length l.tokens.now.left.now + 5

abbrev pub decreases-suffixed : goal.decreases-suffixed
decreases-suffixed l = 7 * length l.tokens.now.left.now + 6

-- the turns that are left go on from what was found to what all turns give
abbrev pub invariant-some_arguments-loop-tokens : goal.invariant-some_arguments-loop-tokens
invariant-some_arguments-loop-tokens l = record {
  fewer : length l.tokens.left.now < length l.fn.tokens.left.now;
  turns : (n : ℕ) → length l.fn.tokens.left.now < n → (k : ℕ) × (length l.tokens.left.now ≤ k) × (some_arguments (expression l.self.bytes.now n) l.fn.tokens.left.now ≡ repeated (sees w.Comma) (next_argument (expression l.self.bytes.now n)) k l.args l.tokens.left.now);
}

abbrev pub decreases-some_arguments-loop-tokens : goal.decreases-some_arguments-loop-tokens
decreases-some_arguments-loop-tokens l = length l.tokens.left.now
