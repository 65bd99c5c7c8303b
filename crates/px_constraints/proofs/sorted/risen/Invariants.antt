use Rattle.std.proofs.Common.{◌≡◌, ◌++◌, None, drop}
use Rattle.px_constraints.specs.Sets.{risen}
use Rattle.px_constraints.proofs.sorted.risen.Given as goal

abbrev pub invariant-loop-site : goal.invariant-loop-site
invariant-loop-site l = l.items.items ++ risen l.last (drop l.site-index l.sites) ≡ risen None l.sites
