use Rattle.px_pair.proofs.FreshCalls.{commits_leave_fresh as law}
use Rattle.px_pair.proofs.law.commits_leave_fresh.Goals as goal

pub returns : goal.returns
returns c = law
