use Rattle.std.proofs.Common.{◌≡◌, ◌++◌, drop}
use Rattle.px_named.specs.Named.{named_trees}
use Rattle.px_named.proofs.trees.+tree.Given as goal

abbrev pub invariant-named_trees-loop-tree : goal.invariant-named_trees-loop-tree
invariant-named_trees-loop-tree l = l.named ++ named_trees l.fn.code l.fn.placed (drop l.tree-index l.fn.trees) ≡ named_trees l.fn.code l.fn.placed l.fn.trees
