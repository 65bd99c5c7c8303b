use Rattle.px_locks.proofs.Laws.{answers_are_one as law}
use Rattle.px_locks.proofs.law.answers_are_one.Goals as goal

pub returns : goal.returns
returns c = law
