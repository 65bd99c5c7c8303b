use Rattle.std.proofs.Common.{◌≡◌, ◌++◌, map, drop}
use Rattle.px_straight.specs.Simple.{simple_tree}
use Rattle.px_straight.proofs.methods.simple_trees.Given as goal

abbrev pub invariant-loop-tree : goal.invariant-loop-tree
invariant-loop-tree l = l.all ++ map simple_tree (drop l.tree-index l.fn.trees) ≡ map simple_tree l.fn.trees
