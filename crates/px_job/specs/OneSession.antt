-- Jobs that two ends take: of one session and one part, which places each node.
use Rattle.std.specs.Prelude.{◌≡◌, ℕ, false, List, [], ◌∷◌, length, None, Ok}
use Rattle.std.specs.List.{AllByRecursion}
use Rattle.px_value.specs.declared.schema.Schema.{Schema}
use Rattle.px_facts.specs.declared.checked.Checked.{Checked}
use Rattle.px_normal.specs.declared.code.Code.{Code}
use Rattle.px_job.specs.Lines.{lines_of}
use Rattle.px_job.specs.Parts.{full}
use Rattle.px_job.specs.Jobs.{job_of}
use Rattle.px_job.specs.Beyond.{beyond_from}
use Rattle.px_job.specs.Fitting.{IsSet, PrintsStay}
use Rattle.px_job.specs.declared.job.Part.{Part}
use Rattle.px_job.specs.declared.job.Job.{Job}

-- the job has one session, which reads no loads, and the order says nothing; its one part serves under every load, has no budget and a side for each node, and prints are at APP
pub record IsOfOneSession (code : Code) (job : Job) : Type 0 where
  pub sessions : job.settings.sessions ≡ 1
  pub calls : AllByRecursion (λ call. call.session ≡ 1) job.calls
  pub loads : job.loads ≡ [] ∷ []
  pub order : job.order ≡ []
  pub part : Part
  pub one : job.parts ≡ part ∷ []
  pub upto : part.upto ≡ full
  pub budget : part.budget ≡ None
  pub nodes : length part.sides.sides ≡ length code.nodes
  pub sides : AllByRecursion IsSet part.sides.sides
  pub prints : PrintsStay code part.sides.sides

-- a job without a line that two ends don't take yet is so
abbrev pub TakenIsOfOneSession : Type 0
TakenIsOfOneSession = (P : Checked) (schema : Schema) (code : Code) (bytes : List ℕ) (job : Job) → job_of P schema code bytes ≡ Ok job → beyond_from 1 false (lines_of bytes) ≡ None → IsOfOneSession code job
