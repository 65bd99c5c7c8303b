use Rattle.std.proofs.Common.{◌≡◌, length}
use Rattle.px_acts.specs.Undo.{undone}
use Rattle.px_acts.proofs.store.take_back.Given as goal

abbrev pub invariant-loop-cell : goal.invariant-loop-cell
invariant-loop-cell l = undone l.olds.entries l.heap ≡ undone l.fn.olds.entries l.fn.heap

abbrev pub decreases-loop-cell : goal.decreases-loop-cell
decreases-loop-cell l = length l.olds.entries
