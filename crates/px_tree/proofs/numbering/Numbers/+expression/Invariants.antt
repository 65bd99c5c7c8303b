use Rattle.std.proofs.Common.{◌≡◌, ◌≤◌, ◌+◌, ◌*◌, map, reverse, length, option_map}
use Rattle.px_tree.specs.Numbering.{in_order, numbered_expression}
use Rattle.px_tree.proofs.Sizes.{total, size_if, size_of, size_of_form}
use Rattle.px_tree.proofs.Numbers.{joined}
use Rattle.px_tree.proofs.numbering.Numbers.+expression.Given as goal

abbrev pub decreases-expression : goal.decreases-expression
decreases-expression l = 4 * size_of l.e

abbrev pub decreases-boxed : goal.decreases-boxed
decreases-boxed l = 4 * size_of l.e + 1

abbrev pub decreases-receiver : goal.decreases-receiver
decreases-receiver l = 4 * size_if (option_map size_of l.of) + 2

abbrev pub decreases-expressions : goal.decreases-expressions
decreases-expressions l = 4 * total (map size_of l.es) + 1

abbrev pub decreases-expression_form : goal.decreases-expression_form
decreases-expression_form l = 4 * size_of_form l.form + 3

abbrev pub invariant-expressions-loop-e : goal.invariant-expressions-loop-e
invariant-expressions-loop-e l =
    record {
      order : in_order (map numbered_expression l.fn.es) l.fn.self.next ≡ joined l.numbered (in_order (map numbered_expression (reverse l.left)) l.self.next);
      small : total (map size_of l.left) ≤ total (map size_of l.fn.es);
    }

abbrev pub decreases-expressions-loop-e : goal.decreases-expressions-loop-e
decreases-expressions-loop-e l = length l.left
