use Rattle.px_locks.proofs.Laws.{modes_go_both_ways as law}
use Rattle.px_locks.proofs.law.modes_go_both_ways.Goals as goal

pub returns : goal.returns
returns c = law
