use Rattle.px_mean.proofs.OnList.{only_written_down}
use Rattle.px_mean.proofs.law.only_written_down.Goals as goal

pub returns : goal.returns
returns c = only_written_down
