use Rattle.px_job.proofs.FiledLines.{lines_are_filed}
use Rattle.px_job.proofs.laws.lines_are_filed.Goals as goal

pub returns : goal.returns
returns c = lines_are_filed
