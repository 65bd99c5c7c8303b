use Rattle.std.proofs.Common.{◌≡◌, ◌+◌, ◌*◌, max, map, drop}
use Rattle.px_tree.specs.declared.Stmt.{size-Stmt}
use Rattle.px_lowering.specs.Statements.{low_stmt, lower_all}
use Rattle.px_lowering.proofs.draft.Draft.+statement.Given as goal

abbrev pub decreases-statement : goal.decreases-statement
decreases-statement l = 5 * size-Stmt l.s.now

abbrev pub decreases-statements : goal.decreases-statements
decreases-statements l = 5 * goal.size-statements l + 1

abbrev pub decreases-other : goal.decreases-other
decreases-other l = 5 * goal.size-other l + 1

abbrev pub decreases-if_statement : goal.decreases-if_statement
decreases-if_statement l = 5 * max (size-Stmt l.yes.now) (goal.size-if_statement l) + 2

abbrev pub decreases-while_loop : goal.decreases-while_loop
decreases-while_loop l = 5 * size-Stmt l.body.now + 1

abbrev pub decreases-for_loop : goal.decreases-for_loop
decreases-for_loop l = 5 * max (size-Stmt l.first.now) (max (size-Stmt l.body.now) (size-Stmt l.last.now)) + 1

abbrev pub invariant-statements-loop-item : goal.invariant-statements-loop-item
invariant-statements-loop-item l = lower_all (map (low_stmt l.fn.checked l.fn.gives) l.fn.items) l.fn.self ≡ lower_all (map (low_stmt l.fn.checked l.fn.gives) (drop l.item-index l.fn.items)) l.self
