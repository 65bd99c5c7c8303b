use Rattle.px_sound_plans.proofs.Entries.{sessions_served}
use Rattle.px_sound_plans.proofs.law.sessions_served.Goals as goal

pub returns : goal.returns
returns t c = sessions_served _ _
