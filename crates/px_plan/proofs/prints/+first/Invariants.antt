use Rattle.std.proofs.Common.{◌≡◌, drop}
use Rattle.px_plan.specs.Prints.{first_among}
use Rattle.px_plan.proofs.prints.+first.Given as goal

abbrev pub invariant-first_among-loop-tree : goal.invariant-first_among-loop-tree
invariant-first_among-loop-tree l = first_among l.sides (drop l.tree-index l.trees) ≡ first_among l.sides l.trees
