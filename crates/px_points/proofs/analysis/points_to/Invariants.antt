use Rattle.px_points.proofs.Marking.{open_places}
use Rattle.px_points.proofs.Flows.{Holds}
use Rattle.px_points.proofs.analysis.points_to.Given as goal

abbrev pub invariant-passes : goal.invariant-passes
invariant-passes l = Holds l.code l.points

abbrev pub decreases-passes : goal.decreases-passes
decreases-passes l = open_places l.points
