use Rattle.std.proofs.Common.{◌≡◌, drop}
use Rattle.px_partition.specs.Words.{with_trees}
use Rattle.px_partition.proofs.words.+words.Given as goal

abbrev pub invariant-set_trees-loop-tree : goal.invariant-set_trees-loop-tree
invariant-set_trees-loop-tree l = with_trees (drop l.tree-index l.trees) l.words ≡ with_trees l.trees l.fn.words
