use Rattle.std.proofs.Common.{◌≡◌, vec_len}
use Rattle.px_plain.specs.Undo.{undone}
use Rattle.px_plain.proofs.store.take_back.Given as goal

abbrev pub invariant-loop-change : goal.invariant-loop-change
invariant-loop-change l = undone l.changes.items l.heap ≡ undone l.fn.changes.items l.fn.heap

abbrev pub decreases-loop-change : goal.decreases-loop-change
decreases-loop-change l = vec_len l.changes
