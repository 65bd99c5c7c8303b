use Rattle.std.proofs.Common.{◌≡◌, ◌++◌, ◌+◌, ◌*◌, map, drop}
use Rattle.px_tree.specs.declared.Stmt.{size-Stmt}
use Rattle.px_lowering.specs.Allocations.{all_of, in_statement}
use Rattle.px_lowering.proofs.allocations.+statement.Given as goal

abbrev pub decreases-in_statement : goal.decreases-in_statement
decreases-in_statement l = 5 * size-Stmt l.s.now

abbrev pub decreases-in_other : goal.decreases-in_other
decreases-in_other l = 5 * goal.size-in_other l + 1

abbrev pub decreases-in_statements : goal.decreases-in_statements
decreases-in_statements l = 5 * goal.size-in_statements l + 1

abbrev pub invariant-in_statements-loop-item : goal.invariant-in_statements-loop-item
invariant-in_statements-loop-item l = l.fn.found ++ all_of (map (in_statement l.fn.checked.facts l.fn.method) l.fn.items) ≡ l.found ++ all_of (map (in_statement l.fn.checked.facts l.fn.method) (drop l.item-index l.fn.items))
