-- Jobs that keep the rules of a job file can be served.
use Rattle.std.proofs.Common.{ℕ, zero, suc, ◌≤◌, All, List, [], ◌∷◌, map, arith}
use Rattle.std.specs.List.{AllByRecursion}
use Rattle.std.proofs.lemmas.Bool.{and_parts, leb-true}
use Rattle.px_facts.specs.declared.checked.Entry.{Entry}
use Rattle.px_mean.specs.Serial.{Call}
use Rattle.px_job.specs.declared.job.Call.{Call as CallOfFile}
use Rattle.px_job.specs.Fitting.{IsCallOf}
use Rattle.px_core.specs.Cored.{asked_call}
use Rattle.px_core.specs.Laws.{FittingJobsAreServable}

all_of : (entries : List Entry) (n : ℕ) (calls : List CallOfFile) → AllByRecursion (IsCallOf entries n) calls → All (λ (c : Call). (1 ≤ c.session) × (c.session ≤ n)) (map asked_call calls)
all_of entries n [] a k d l = absurd (omega arith)
all_of entries n (c ∷ cs) a zero d l = a.0.session
all_of entries n (c ∷ cs) a (suc k) d l = all_of entries n cs a.1 k d (omega arith)

pub fitting_jobs_are_servable : FittingJobsAreServable
fitting_jobs_are_servable entries tables code job f = record {
  sessions = all_of entries job.settings.sessions job.calls f.calls;
  retries = leb-true job.settings.retries 9 (and_parts _ _ (f.settings).retries).1;
}
