use Rattle.std.proofs.Common.{◌≡◌, drop}
use Rattle.px_blocks.specs.Cutter.{cuts_of, after_all}
use Rattle.px_blocks.proofs.counting.+after.Given as goal

abbrev pub invariant-after_all-loop-tree : goal.invariant-after_all-loop-tree
invariant-after_all-loop-tree l = after_all (cuts_of l.fn.placed l.fn.trees) l.fn.shape ≡ after_all (cuts_of l.fn.placed (drop l.tree-index l.fn.trees)) l.shape
