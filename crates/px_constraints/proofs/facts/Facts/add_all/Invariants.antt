use Rattle.std.proofs.Common.{◌≡◌, drop}
use Rattle.px_constraints.specs.Search.{added_all}
use Rattle.px_constraints.proofs.facts.Facts.add_all.Given as goal

abbrev pub invariant-loop-site : goal.invariant-loop-site
invariant-loop-site l = added_all l.var (drop l.site-index l.sites) l.self ≡ added_all l.var l.sites l.fn.self
