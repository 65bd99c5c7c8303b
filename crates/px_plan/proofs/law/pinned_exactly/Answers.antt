use Rattle.px_plan.proofs.Pinned.{pinned_exactly}
use Rattle.px_plan.proofs.law.pinned_exactly.Goals as goal

pub returns : goal.returns
returns c = pinned_exactly
