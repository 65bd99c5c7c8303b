use Rattle.px_session.proofs.Kept.{keep_is_not_told as law}
use Rattle.px_session.proofs.law.keep_is_not_told.Goals as goal

pub returns : goal.returns
returns c = law
