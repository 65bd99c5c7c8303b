use Rattle.px_pair.proofs.Sessions.{new_rests as law}
use Rattle.px_pair.proofs.law.new_rests.Goals as goal

pub returns : goal.returns
returns c = law
