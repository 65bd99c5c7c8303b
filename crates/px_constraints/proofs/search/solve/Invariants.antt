use Rattle.px_constraints.proofs.Adding.{measure}
use Rattle.px_constraints.proofs.Following.{sites}
use Rattle.px_constraints.proofs.Solving.{Good}
use Rattle.px_constraints.proofs.search.solve.Given as goal

abbrev pub invariant-facts : goal.invariant-facts
invariant-facts l = Good l.system l.search

abbrev pub decreases-facts : goal.decreases-facts
decreases-facts l = measure (sites l.system) l.search.facts
