use Rattle.std.proofs.Common.{◌≡◌, ◌++◌, drop}
use Rattle.px_named.specs.Named.{sites_from}
use Rattle.px_named.proofs.members.placed_sites.Given as goal

abbrev pub invariant-loop-site : goal.invariant-loop-site
invariant-loop-site l = l.placed ++ sites_from l.fn.sides l.number (drop l.site-index l.fn.sites) ≡ sites_from l.fn.sides 1 l.fn.sites
