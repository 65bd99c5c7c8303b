use Rattle.px_pair.proofs.Served.{calls_are_served as law}
use Rattle.px_pair.proofs.law.calls_are_served.Goals as goal

pub returns : goal.returns
returns c = law
