use Rattle.px_ends.proofs.AsCode.{pair_runs_as_code as law}
use Rattle.px_ends.proofs.law.pair_runs_as_code.Goals as goal

pub returns : goal.returns
returns t c = law _ _
