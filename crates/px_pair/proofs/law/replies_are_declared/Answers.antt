use Rattle.px_pair.proofs.Replies.{replies_are_declared as law}
use Rattle.px_pair.proofs.law.replies_are_declared.Goals as goal

pub returns : goal.returns
returns c = law
