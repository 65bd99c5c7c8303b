use Rattle.std.proofs.Common.{◌≡◌, ◌≤◌, ◌+◌, ◌*◌, map, reverse, length, option_map}
use Rattle.px_tree.specs.Numbering.{in_order, numbered_statement}
use Rattle.px_tree.proofs.Sizes.{total, size_if, statement_size, statement_size_of_form}
use Rattle.px_tree.proofs.Numbers.{joined}
use Rattle.px_tree.proofs.numbering.Numbers.+statement.Given as goal

abbrev pub decreases-statement : goal.decreases-statement
decreases-statement l = 5 * statement_size l.s

abbrev pub decreases-boxed_statement : goal.decreases-boxed_statement
decreases-boxed_statement l = 5 * statement_size l.s + 1

abbrev pub decreases-else_part : goal.decreases-else_part
decreases-else_part l = 5 * size_if (option_map statement_size l.s) + 2

abbrev pub decreases-items : goal.decreases-items
decreases-items l = 5 * total (map statement_size l.items) + 1

abbrev pub decreases-conditional : goal.decreases-conditional
decreases-conditional l = 5 * (statement_size l.yes + size_if (option_map statement_size l.no)) + 3

abbrev pub decreases-for_loop : goal.decreases-for_loop
decreases-for_loop l = 5 * (statement_size l.first + statement_size l.last + statement_size l.body) + 3

abbrev pub decreases-block : goal.decreases-block
decreases-block l = 5 * total (map statement_size l.items) + 2

abbrev pub decreases-while_loop : goal.decreases-while_loop
decreases-while_loop l = 5 * statement_size l.body + 3

abbrev pub decreases-statement_form : goal.decreases-statement_form
decreases-statement_form l = 5 * statement_size_of_form l.form + 4

abbrev pub invariant-items-loop-item : goal.invariant-items-loop-item
invariant-items-loop-item l =
    record {
      order : in_order (map numbered_statement l.fn.items) l.fn.self.next ≡ joined l.numbered (in_order (map numbered_statement (reverse l.left)) l.self.next);
      small : total (map statement_size l.left) ≤ total (map statement_size l.fn.items);
    }

abbrev pub decreases-items-loop-item : goal.decreases-items-loop-item
decreases-items-loop-item l = length l.left
