use Rattle.std.proofs.Common.{◌≡◌, ◌++◌, drop}
use Rattle.px_constraints.proofs.search.copied_edges.Given as goal

abbrev pub invariant-loop-targets : goal.invariant-loop-targets
invariant-loop-targets l = l.edges.items ++ drop l.targets-index l.copies ≡ l.copies
