use Rattle.px_control.proofs.TakenLaw.{updates_are_taken as it}
use Rattle.px_control.proofs.law.updates_are_taken.Goals as goal

pub returns : goal.returns
returns c = it
