use Rattle.px_ends.proofs.CallsAgree.{call_agrees as law}
use Rattle.px_ends.proofs.law.call_agrees.Goals as goal

pub returns : goal.returns
returns t c = law _ _
