use Rattle.px_job.proofs.OneSession.{taken_is_of_one_session}
use Rattle.px_job.proofs.laws.taken_is_of_one_session.Goals as goal

pub returns : goal.returns
returns c = taken_is_of_one_session
