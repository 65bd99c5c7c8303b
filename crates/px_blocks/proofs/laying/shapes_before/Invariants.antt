use Rattle.std.proofs.Common.{◌≡◌, ◌++◌, drop}
use Rattle.px_blocks.specs.Cutter.{cuts_of}
use Rattle.px_blocks.specs.Seen.{shapes_of}
use Rattle.px_blocks.proofs.laying.shapes_before.Given as goal

abbrev pub invariant-loop-tree : goal.invariant-loop-tree
invariant-loop-tree l = l.shapes ++ shapes_of (cuts_of l.fn.placed (drop l.tree-index l.fn.trees)) l.shape ≡ shapes_of (cuts_of l.fn.placed l.fn.trees) l.fn.shape
