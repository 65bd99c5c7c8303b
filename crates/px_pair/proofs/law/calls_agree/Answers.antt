use Rattle.px_pair.proofs.Calls.{calls_agree as law}
use Rattle.px_pair.proofs.law.calls_agree.Goals as goal

pub returns : goal.returns
returns c = law
