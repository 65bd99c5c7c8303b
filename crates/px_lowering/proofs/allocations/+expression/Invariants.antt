use Rattle.std.proofs.Common.{◌≡◌, ◌++◌, ◌+◌, ◌*◌, ℕ, map, drop, Option, Some, None}
use Rattle.px_tree.specs.declared.Expr.{Expr, size-Expr}
use Rattle.px_lowering.specs.Allocations.{all_of, in_expression}
use Rattle.px_lowering.proofs.allocations.+expression.Given as goal

abbrev deep : Option Expr → ℕ
deep None = 0
deep (Some e) = size-Expr e

abbrev pub decreases-in_expression : goal.decreases-in_expression
decreases-in_expression l = 5 * size-Expr l.e.now

abbrev pub decreases-in_receiver : goal.decreases-in_receiver
decreases-in_receiver l = 5 * deep l.of.now + 1

abbrev pub decreases-in_expressions : goal.decreases-in_expressions
decreases-in_expressions l = 5 * goal.size-in_expressions l + 1

abbrev pub invariant-in_expressions-loop-e : goal.invariant-in_expressions-loop-e
invariant-in_expressions-loop-e l = l.fn.found ++ all_of (map (in_expression l.fn.checked.facts l.fn.method) l.fn.es) ≡ l.found ++ all_of (map (in_expression l.fn.checked.facts l.fn.method) (drop l.e-index l.fn.es))
