use Rattle.px_core.proofs.Servable.{fitting_jobs_are_servable as law}
use Rattle.px_core.proofs.law.fitting_jobs_are_servable.Goals as goal

pub returns : goal.returns
returns c = law
