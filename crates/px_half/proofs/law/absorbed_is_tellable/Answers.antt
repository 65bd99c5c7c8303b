use Rattle.px_half.proofs.TellableEnds.{absorbed_is_tellable as law}
use Rattle.px_half.proofs.law.absorbed_is_tellable.Goals as goal

pub returns : goal.returns
returns c = law
