use Rattle.px_pair.proofs.Sessions.{commits_keep as law}
use Rattle.px_pair.proofs.law.commits_keep.Goals as goal

pub returns : goal.returns
returns c = law
