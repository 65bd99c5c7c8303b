use Rattle.px_pair.proofs.BlocksRun.{blocks_run_as_code as law}
use Rattle.px_pair.proofs.law.blocks_run_as_code.Goals as goal

pub returns : goal.returns
returns c = law
