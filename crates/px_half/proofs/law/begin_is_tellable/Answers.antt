use Rattle.px_half.proofs.TellableEnds.{begin_is_tellable as law}
use Rattle.px_half.proofs.law.begin_is_tellable.Goals as goal

pub returns : goal.returns
returns c = law
