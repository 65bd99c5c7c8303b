use Rattle.std.proofs.Common.{◌≡◌, vec_len}
use Rattle.px_half.specs.Undo.{undone}
use Rattle.px_half.proofs.undo.take_back.Given as goal

abbrev pub invariant-loop-change : goal.invariant-loop-change
invariant-loop-change l = undone l.undo.items l.heap ≡ undone l.fn.undo.items l.fn.heap

abbrev pub decreases-loop-change : goal.decreases-loop-change
decreases-loop-change l = vec_len l.undo
