use Rattle.px_pair.proofs.Going.{Going, turns_left}
use Rattle.px_pair.proofs.ends.Ends.talk.Given as goal

abbrev pub invariant-loop-self : goal.invariant-loop-self
invariant-loop-self l = Going l.initial.self l.self

abbrev pub decreases-loop-self : goal.decreases-loop-self
decreases-loop-self l = turns_left l.self
