use Rattle.px_two_ends.proofs.Programs.{accepted_is_placed_well}
use Rattle.px_two_ends.proofs.law.accepted_is_placed_well.Goals as goal

pub returns : goal.returns
returns c = accepted_is_placed_well
