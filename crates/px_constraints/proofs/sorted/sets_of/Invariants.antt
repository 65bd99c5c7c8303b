use Rattle.std.proofs.Common.{◌++◌, ℕ, List, drop}
use Rattle.px_constraints.specs.Sets.{AreSetsOf}
use Rattle.px_constraints.proofs.sorted.sets_of.Given as goal

abbrev pub invariant-loop-sites : goal.invariant-loop-sites
invariant-loop-sites l = (rest : List (List ℕ)) → AreSetsOf (drop l.sites-index l.facts.sets) rest → AreSetsOf l.facts.sets (l.sets.items ++ rest)
