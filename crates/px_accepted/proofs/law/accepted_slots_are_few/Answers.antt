use Rattle.px_accepted.proofs.AcceptedSlots.{accepted_slots_are_few}
use Rattle.px_accepted.proofs.law.accepted_slots_are_few.Goals as goal

pub returns : goal.returns
returns c = accepted_slots_are_few
