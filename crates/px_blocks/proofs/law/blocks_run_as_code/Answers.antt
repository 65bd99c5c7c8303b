use Rattle.px_blocks.proofs.Running.{blocks_run_as_code}
use Rattle.px_blocks.proofs.law.blocks_run_as_code.Goals as goal

pub returns : goal.returns
returns t c = blocks_run_as_code _ _
