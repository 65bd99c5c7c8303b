use Rattle.px_job.proofs.FittingJobs.{jobs_fit}
use Rattle.px_job.proofs.laws.jobs_fit.Goals as goal

pub returns : goal.returns
returns c = jobs_fit
