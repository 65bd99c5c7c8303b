use Rattle.std.proofs.Common.{◌≡◌, ◌+◌, ◌*◌, max, true, map, drop}
use Rattle.px_tree.specs.declared.Stmt.{size-Stmt}
use Rattle.px_lowering.specs.Statements.{completes, last_completes}
use Rattle.px_lowering.proofs.locals.+completes.Given as goal

abbrev pub decreases-completes : goal.decreases-completes
decreases-completes l = 5 * size-Stmt l.s.now

abbrev pub decreases-last_completes : goal.decreases-last_completes
decreases-last_completes l = 5 * goal.size-last_completes l + 1

abbrev pub decreases-either_completes : goal.decreases-either_completes
decreases-either_completes l = 5 * max (size-Stmt l.yes.now) (goal.size-either_completes l) + 1

abbrev pub invariant-last_completes-loop-item : goal.invariant-last_completes-loop-item
invariant-last_completes-loop-item l = last_completes true (map completes l.fn.items) ≡ last_completes l.last (map completes (drop l.item-index l.fn.items))
