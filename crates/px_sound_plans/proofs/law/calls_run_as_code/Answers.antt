use Rattle.px_sound_plans.proofs.Entries.{calls_run_as_code}
use Rattle.px_sound_plans.proofs.law.calls_run_as_code.Goals as goal

pub returns : goal.returns
returns t c = calls_run_as_code _ _
