use Rattle.px_pair.proofs.Steps.{blocks_run_alike as law}
use Rattle.px_pair.proofs.law.blocks_run_alike.Goals as goal

pub returns : goal.returns
returns c = law
