use Rattle.px_session.proofs.Once.{calls_are_told_once as law}
use Rattle.px_session.proofs.law.calls_are_told_once.Goals as goal

pub returns : goal.returns
returns c = law
