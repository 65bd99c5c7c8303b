use Rattle.px_accepted.proofs.Limits.{accepted_keeps_limits}
use Rattle.px_accepted.proofs.law.accepted_keeps_limits.Goals as goal

pub returns : goal.returns
returns c = accepted_keeps_limits
