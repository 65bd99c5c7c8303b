use Rattle.px_pair.proofs.FreshCalls.{nothing_stale as law}
use Rattle.px_pair.proofs.law.nothing_stale.Goals as goal

pub returns : goal.returns
returns c = law
