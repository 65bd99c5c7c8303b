use Rattle.px_ends.proofs.AsCode.{sound_code_runs as law}
use Rattle.px_ends.proofs.law.sound_code_runs.Goals as goal

pub returns : goal.returns
returns t c = law _ _
