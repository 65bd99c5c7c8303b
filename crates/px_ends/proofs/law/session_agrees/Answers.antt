use Rattle.px_ends.proofs.CallsAgree.{session_agrees as law}
use Rattle.px_ends.proofs.law.session_agrees.Goals as goal

pub returns : goal.returns
returns t c = law _ _
