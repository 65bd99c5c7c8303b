use Rattle.std.proofs.Common.{◌≡◌, ◌≤◌, ◌+◌, ◌*◌, ℕ, max, map, drop, Option, Some, None}
use Rattle.px_tree.specs.declared.Expr.{Expr, size-Expr}
use Rattle.px_mean.specs.Run.{gather}
use Rattle.px_mean.specs.Expressions.{fitted}
use Rattle.px_plain.specs.View.{frame, says, Keeps}
use Rattle.px_plain.proofs.expressions.+eval.Given as goal

abbrev deep : Option Expr → ℕ
deep None = 0
deep (Some e) = size-Expr e

abbrev pub decreases-eval : goal.decreases-eval
decreases-eval g l = 5 * size-Expr l.e.now

abbrev pub decreases-field : goal.decreases-field
decreases-field g l = 5 * size-Expr l.of.now + 1

abbrev pub decreases-array : goal.decreases-array
decreases-array g l = 5 * size-Expr l.length.now + 1

abbrev pub decreases-prefix : goal.decreases-prefix
decreases-prefix g l = 5 * size-Expr l.value.now + 1

abbrev pub decreases-fitted : goal.decreases-fitted
decreases-fitted g l = 5 * size-Expr l.e.now + 1

abbrev pub decreases-receiver : goal.decreases-receiver
decreases-receiver g l = 5 * deep l.of.now + 1

abbrev pub decreases-with_left : goal.decreases-with_left
decreases-with_left g l = 5 * size-Expr l.right.now + 1

abbrev pub decreases-receive : goal.decreases-receive
decreases-receive g l = 5 * deep l.of.now + 2

abbrev pub decreases-binary : goal.decreases-binary
decreases-binary g l = 5 * max (size-Expr l.left.now) (size-Expr l.right.now) + 2

abbrev pub decreases-element : goal.decreases-element
decreases-element g l = 5 * max (size-Expr l.of.now) (size-Expr l.index.now) + 1

-- the deepest of the arguments
abbrev pub decreases-arguments : goal.decreases-arguments
decreases-arguments g l = 5 * goal.size-arguments g l + 2

abbrev pub decreases-call : goal.decreases-call
decreases-call g l = 5 * max (deep l.of.now) (goal.size-call g l) + 3

abbrev pub invariant-arguments-loop-arg : goal.invariant-arguments-loop-arg
invariant-arguments-loop-arg g l = record {
  place : l.place ≡ l.arg-index;
  gathers : gather l.fn.values (fitted l.fn.wanted 0 (map (says l.fn.around) l.fn.args)) (frame l.fn.slots l.fn.m) ≡ gather l.values (fitted l.fn.wanted l.place (map (says l.fn.around) (drop l.arg-index l.fn.args))) (frame l.fn.slots l.m);
  kept : Keeps l.fn.m l.m;
  turns : l.fn.m.turns ≤ l.m.turns;
}
