use Rattle.std.proofs.Common.{◌≡◌, drop}
use Rattle.px_constraints.specs.Search.{added_each}
use Rattle.px_constraints.proofs.facts.Facts.add_each.Given as goal

abbrev pub invariant-loop-target : goal.invariant-loop-target
invariant-loop-target l = added_each (drop l.target-index l.targets) l.site l.self ≡ added_each l.targets l.site l.fn.self
