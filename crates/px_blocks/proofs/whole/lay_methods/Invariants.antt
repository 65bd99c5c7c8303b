use Rattle.std.proofs.Common.{length, reverse}
use Rattle.px_blocks.proofs.LaidMethods.{LaysMethods}
use Rattle.px_blocks.proofs.whole.lay_methods.Given as goal

abbrev pub decreases-loop-made : goal.decreases-loop-made
decreases-loop-made l = length l.mades

abbrev pub invariant-loop-made : goal.invariant-loop-made
invariant-loop-made l = LaysMethods l.fn.placed l.fn.firsts l.fn.methods l.mades (reverse l.later)
