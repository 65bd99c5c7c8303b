use Rattle.std.proofs.Common.{◌≡◌, ◌++◌, drop}
use Rattle.px_job.specs.Prints.{prints_among}
use Rattle.px_job.proofs.prints.+prints.Given as goal

abbrev pub invariant-push_prints-loop-tree : goal.invariant-push_prints-loop-tree
invariant-push_prints-loop-tree l = l.prints ++ prints_among (drop l.tree-index l.trees) ≡ l.fn.prints ++ prints_among l.trees
