use Rattle.px_constraints.proofs.Rising.{no_more}
use Rattle.px_constraints.proofs.sorted.sets_of.Goals as goal

pub returns : goal.returns
returns c = no_more c.args.facts.now.sets c.all-sites-items.result.now c.loop-sites.sets.items c.loop-sites.sites-index c.all-sites-items.ensures c.loop-sites-test.false c.loop-sites.invariant
