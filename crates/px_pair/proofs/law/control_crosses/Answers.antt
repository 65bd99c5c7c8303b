use Rattle.px_pair.proofs.ControlCrossing.{control_crosses as law}
use Rattle.px_pair.proofs.law.control_crosses.Goals as goal

pub returns : goal.returns
returns c = law
