use Rattle.std.proofs.Common.{◌≡◌, drop}
use Rattle.px_straight.specs.Taken.{later_among}
use Rattle.px_straight.proofs.later.+later.Given as goal

abbrev pub invariant-later_among-loop-tree : goal.invariant-later_among-loop-tree
invariant-later_among-loop-tree l = later_among l.fn.code l.fn.trees ≡ later_among l.fn.code (drop l.tree-index l.fn.trees)
