use Rattle.std.proofs.Common.{[], ◌≡◌, ◌++◌, map, drop}
use Rattle.px_constraints.proofs.facts.Facts.first.Given as goal

abbrev pub invariant-loop-targets : goal.invariant-loop-targets
invariant-loop-targets l = l.sets.items ++ map (λ _. []) (drop l._targets-index l.system.copies) ≡ map (λ _. []) l.system.copies
