-- Calls that are served by two ends, by the code.
use Rattle.std.specs.Prelude.{◌≡◌, ℕ, List, [], ◌∷◌, Ok}
use Rattle.std.specs.List.{AllByRecursion}
use Rattle.px_facts.specs.declared.checked.Checked.{Checked}
use Rattle.px_code.specs.declared.code.Code.{Code}
use Rattle.px_code.specs.declared.placement.Placement.{Placement}
use Rattle.px_code.specs.declared.plan.Plan.{Plan}
use Rattle.px_code.specs.declared.reply.Done.{Done}
use Rattle.px_half.specs.End.{first_object}
use Rattle.px_pair.specs.Callable.{IsCallable}
use Rattle.px_session.specs.Serving.{Call, AreServed, by_code}
use Rattle.px_job.specs.declared.job.Job.{Job}
use Rattle.px_lowering.specs.Programs.{lowered}
use Rattle.px_straight.specs.Straight.{straight}
use Rattle.px_main.specs.Answers.{solo_job_for}
use Rattle.px_main.specs.Known.{IsKnown}
use Rattle.px_main.specs.Solo.{IsPlanOf}

-- a call that code may be given
abbrev pub IsCall : Code → Call → Type 0
IsCall code c = IsCallable code c.method c.args

abbrev pub AreCalls : Code → List Call → Type 0
AreCalls code calls = AllByRecursion (IsCall code) calls

-- by a plan of the code, from its first heap
pub record AreServedBy (code : Code) (placement : Placement) (calls : List Call) (dones : List Done) : Type 0 where
  pub plan : Plan
  pub plan_is : IsPlanOf code placement plan
  pub served : AreServed (by_code code) plan (first_object code ∷ []) [] calls dones

-- an accepted program, all of which two ends take, and a job for it
pub record IsTaken (c : Checked) (simple : Code) (job : Job) : Type 0 where
  pub known : IsKnown c
  pub simple_is : straight (lowered c) ≡ Ok simple
  pub bytes : List ℕ
  pub job_is : solo_job_for c bytes ≡ Ok job
