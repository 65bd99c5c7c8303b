use Rattle.px_pair.proofs.Whole.{calls_do_as_code as law}
use Rattle.px_pair.proofs.law.calls_do_as_code.Goals as goal

pub returns : goal.returns
returns c = law
