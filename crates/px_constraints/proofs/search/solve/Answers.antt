use Rattle.std.proofs.Common.{ap, ◌∙◌, sym, subst}
use Rattle.px_constraints.proofs.Solving.{Good, first_good, step_good, step_less, end_least}
use Rattle.px_constraints.specs.Search.{FactsOf}
use Rattle.px_constraints.proofs.search.solve.Goals as goal

pub facts-init : goal.facts-init
facts-init c = subst (Good c.args.system.now) (sym c.in_ok-search.ensures) (first_good c.args.system.now c.requires)

pub facts-smaller : goal.facts-smaller
facts-smaller c = step_less c.args.system.now c.requires c.facts.search _ c.follow.new.self c.in-Some.fact c.facts.invariant c.in-Some.ensures.sets c.in-Some.ensures.edges c.in-Some.ensures.work c.in_ok-follow.ensures

pub facts-preserved : goal.facts-preserved
facts-preserved c = step_good c.args.system.now c.requires c.facts.search _ c.follow.new.self c.in-Some.fact c.facts.invariant c.in-Some.ensures.sets c.in-Some.ensures.edges c.in-Some.ensures.work c.in_ok-follow.ensures

pub returns : goal.returns
returns c = end_least c.args.system.now c.requires c.facts.search c.into_facts.result c.facts.invariant c.in_default.ensures.work (ap (λ (f : FactsOf). f.sets) c.into_facts.ensures ∙ c.in_default.ensures.sets)
