use Rattle.px_pair.proofs.Sessions.{calls_begin as law}
use Rattle.px_pair.proofs.law.calls_begin.Goals as goal

pub returns : goal.returns
returns c = law
