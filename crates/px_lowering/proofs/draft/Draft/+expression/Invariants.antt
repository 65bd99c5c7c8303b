use Rattle.std.proofs.Common.{◌≡◌, ◌++◌, ◌+◌, ◌*◌, ℕ, max, map, drop, Option, Some, None}
use Rattle.px_tree.specs.declared.Expr.{Expr, size-Expr}
use Rattle.px_lowering.specs.Expressions.{arguments, part_of}
use Rattle.px_lowering.proofs.draft.Draft.+expression.Given as goal

abbrev deep : Option Expr → ℕ
deep None = 0
deep (Some e) = size-Expr e

abbrev pub decreases-value : goal.decreases-value
decreases-value l = 5 * size-Expr l.e.now

abbrev pub decreases-operand_at : goal.decreases-operand_at
decreases-operand_at l = 5 * size-Expr l.e.now + 1

abbrev pub decreases-fitted_operand : goal.decreases-fitted_operand
decreases-fitted_operand l = 5 * size-Expr l.e.now + 1

abbrev pub decreases-member : goal.decreases-member
decreases-member l = 5 * size-Expr l.of.now + 2

abbrev pub decreases-element : goal.decreases-element
decreases-element l = 5 * max (size-Expr l.of.now) (size-Expr l.index.now) + 2

abbrev pub decreases-array : goal.decreases-array
decreases-array l = 5 * size-Expr l.length.now + 2

abbrev pub decreases-prefix : goal.decreases-prefix
decreases-prefix l = 5 * size-Expr l.value.now + 2

abbrev pub decreases-two : goal.decreases-two
decreases-two l = 5 * max (size-Expr l.left.now) (size-Expr l.right.now) + 2

abbrev pub decreases-choice : goal.decreases-choice
decreases-choice l = 5 * max (size-Expr l.left.now) (size-Expr l.right.now) + 1

abbrev pub decreases-binary : goal.decreases-binary
decreases-binary l = 5 * max (size-Expr l.left.now) (size-Expr l.right.now) + 3

abbrev pub decreases-receiver : goal.decreases-receiver
decreases-receiver l = 5 * deep l.of.now + 2

-- the deepest of the arguments
abbrev pub decreases-arguments : goal.decreases-arguments
decreases-arguments l = 5 * goal.size-arguments l + 2

abbrev pub decreases-call : goal.decreases-call
decreases-call l = 5 * max (deep l.of.now) (goal.size-call l) + 3

abbrev pub invariant-arguments-loop-arg : goal.invariant-arguments-loop-arg
invariant-arguments-loop-arg l = record {
  place : l.place ≡ l.arg-index;
  operands : (arguments l.fn.checked l.fn.wanted 0 l.fn.before (map (part_of l.fn.checked) l.fn.args) l.fn.self).value.operands ≡ l.operands ++ (arguments l.fn.checked l.fn.wanted l.place l.counter (map (part_of l.fn.checked) (drop l.arg-index l.fn.args)) l.self).value.operands;
  counter : (arguments l.fn.checked l.fn.wanted 0 l.fn.before (map (part_of l.fn.checked) l.fn.args) l.fn.self).value.counter ≡ (arguments l.fn.checked l.fn.wanted l.place l.counter (map (part_of l.fn.checked) (drop l.arg-index l.fn.args)) l.self).value.counter;
  out : (arguments l.fn.checked l.fn.wanted 0 l.fn.before (map (part_of l.fn.checked) l.fn.args) l.fn.self).out ≡ (arguments l.fn.checked l.fn.wanted l.place l.counter (map (part_of l.fn.checked) (drop l.arg-index l.fn.args)) l.self).out;
}
