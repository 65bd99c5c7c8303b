use Rattle.px_straight.proofs.WellFormed.{is_well_formed}
use Rattle.px_straight.proofs.law.straight_is_well_formed.Goals as goal

pub returns : goal.returns
returns c = is_well_formed
