use Rattle.std.proofs.Common.{length}
use Rattle.px_blocks.specs.Seen.{seen}
use Rattle.px_blocks.proofs.LayForms.{Lays}
use Rattle.px_blocks.proofs.laying.+lay.Given as goal

abbrev pub decreases-lay_all-loop-before_it : goal.decreases-lay_all-loop-before_it
decreases-lay_all-loop-before_it l = length l.shapes

abbrev pub invariant-lay_all-loop-before_it : goal.invariant-lay_all-loop-before_it
invariant-lay_all-loop-before_it l = Lays l.fn.placed l.fn.firsts l.fn.method l.fn.trees l.fn.shape (seen l.fn.left) l.shapes (seen l.left)
