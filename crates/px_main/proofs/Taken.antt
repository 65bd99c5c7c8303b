-- What holds of a program and a job that two ends take.
use Rattle.std.proofs.Common.{◌≡◌, ℕ, false, List, [], ◌∷◌, map, Option, Some, None, Result, Ok, Err, IfOk, refl, sym, ap, ◌∙◌, subst}
use Rattle.std.specs.List.{AllByRecursion}
use Rattle.px_facts.specs.declared.checked.Checked.{Checked}
use Rattle.px_facts.specs.declared.checked.Entry.{Entry}
use Rattle.px_code.specs.declared.code.Code.{Code}
use Rattle.px_code.specs.declared.placement.Placement.{Placement}
use Rattle.px_code.specs.declared.reply.Done.{Done}
use Rattle.px_code.specs.WellFormed.{IsWellFormed}
use Rattle.px_mean.specs.Asks.{by_tables}
use Rattle.px_mean.specs.Program.{source_from}
use Rattle.px_mean.specs.Serial.{serial}
use Rattle.px_lowering.specs.Programs.{lowered}
use Rattle.px_straight.proofs.WellFormed.{is_well_formed}
use Rattle.px_job.specs.declared.job.Call.{Call as JobCall}
use Rattle.px_job.specs.declared.job.Job.{Job}
use Rattle.px_job.specs.declared.job.JobFault.{JobFault}
use Rattle.px_job.specs.Lines.{lines_of}
use Rattle.px_job.specs.Beyond.{beyond_from}
use Rattle.px_job.specs.Fitting.{IsCallOf, Fits}
use Rattle.px_job.specs.Short.{HasPlainArguments}
use Rattle.px_job.specs.OneSession.{IsOfOneSession}
use Rattle.px_job.proofs.FittingJobs.{jobs_fit}
use Rattle.px_job.proofs.ShortTexts.{texts_are_short}
use Rattle.px_job.proofs.OneSession.{taken_is_of_one_session}
use Rattle.px_session.specs.Serving.{Call}
use Rattle.px_main.specs.Answers.{taken_if, job_for}
use Rattle.px_main.specs.Run.{wanted, tables_of}
use Rattle.px_main.specs.Served.{AreCalls, AreServedBy, IsTaken}
use Rattle.px_main.specs.Solo.{asked, placement_of, IsPlanOf, AreDone}
use Rattle.px_main.proofs.Accepted.{typed_code, is_small}
use Rattle.px_main.proofs.BySource.{simple_is, as_source}
use Rattle.px_main.proofs.Callable.{IsFitting, all_callable}
use Rattle.px_main.proofs.Shown.{IsOwn, as_serial}

-- ---- the job

record IsRead (beyond : Option ℕ) (read : Result Job JobFault) (job : Job) : Type 0 where
  read_is : read ≡ Ok job
  none_beyond : beyond ≡ None

is_read : (beyond : Option ℕ) (read : Result Job JobFault) (job : Job) → taken_if beyond read ≡ Ok job → IsRead beyond read job
is_read beyond (Err f) job h = cc
is_read None (Ok j) job h = record { read_is = h; none_beyond = refl }
is_read (Some n) (Ok j) job h = cc

module _ (entries : List Entry) (sessions : ℕ) where
  fitting : (calls : List JobCall) → AllByRecursion (IsCallOf entries sessions) calls → AllByRecursion HasPlainArguments calls → AllByRecursion (IsFitting entries) calls
  fitting [] fit plain = tt
  fitting (call ∷ calls) fit plain = (record { entry = fit.0.entry; found = fit.0.found; arguments = fit.0.arguments; plain = plain.0 }, fitting calls fit.1 plain.1)

  own : (calls : List JobCall) → AllByRecursion (IsCallOf entries sessions) calls → AllByRecursion (λ call. call.session ≡ 1) calls → AllByRecursion (IsOwn entries) calls
  own [] fit one = tt
  own (call ∷ calls) fit one = (record { session = one.0; entry = fit.0.entry; found = fit.0.found }, own calls fit.1 one.1)

record IsForOne (c : Checked) (job : Job) : Type 0 where
  sessions : job.settings.sessions ≡ 1
  calls_fit : AllByRecursion (IsFitting c.facts.main.entries) job.calls
  calls_own : AllByRecursion (IsOwn c.facts.main.entries) job.calls

for_one : (c : Checked) (job : Job) (bytes : List ℕ) → IsRead (beyond_from 1 false (lines_of bytes)) (job_for c bytes) job → IsForOne c job
for_one c job bytes r =
    let entries = c.facts.main.entries in
    let fits : Fits entries c.schema.tables (lowered c) job = subst (λ (read : Result Job JobFault). IfOk read (λ j. Fits entries c.schema.tables (lowered c) j)) r.read_is (jobs_fit c c.schema (lowered c) bytes) in
    let plain : AllByRecursion HasPlainArguments job.calls = subst (λ (read : Result Job JobFault). IfOk read (λ j. AllByRecursion HasPlainArguments j.calls)) r.read_is (texts_are_short c c.schema (lowered c) bytes) in
    let one : IsOfOneSession (lowered c) job = taken_is_of_one_session c c.schema (lowered c) bytes job r.read_is r.none_beyond in
    record { sessions = one.sessions; calls_fit = fitting entries job.settings.sessions job.calls fits.calls plain; calls_own = own entries job.settings.sessions job.calls fits.calls one.calls }

taken_for_one : (c : Checked) (simple : Code) (job : Job) → IsTaken c simple job → IsForOne c job
taken_for_one c simple job t = for_one c job t.bytes (is_read (beyond_from 1 false (lines_of t.bytes)) (job_for c t.bytes) job t.job_is)

-- ---- the code and the calls

pub well_formed : (c : Checked) (simple : Code) (job : Job) → IsTaken c simple job → IsWellFormed simple
well_formed c simple job t = is_well_formed (lowered c) simple (typed_code c t.known) (is_small c t.known) t.simple_is

pub are_calls : (c : Checked) (simple : Code) (job : Job) → IsTaken c simple job → AreCalls simple (map (asked c.facts.main.entries) job.calls)
are_calls c simple job t = all_callable c t.known simple t.simple_is job.calls (taken_for_one c simple job t).calls_fit

-- ---- what is served of them

is_done : (c : Checked) (simple : Code) (job : Job) (dones : List Done) → IsTaken c simple job → AreServedBy simple (placement_of job) (map (asked c.facts.main.entries) job.calls) dones → AreDone c job dones
is_done c simple job dones t h =
    let one = taken_for_one c simple job t in
    let T = tables_of c.schema job.rows in
    let served = as_source c t.known simple t.simple_is T h.plan (map (asked c.facts.main.entries) job.calls) dones h.served in
    record {
      plan = h.plan;
      plan_is = subst (λ (code : Code). IsPlanOf code (placement_of job) h.plan) (simple_is c simple t.simple_is) h.plan_is;
      served = served;
      serial = as_serial c t.known simple t.simple_is T h.plan job.calls dones one.calls_own served ∙ ap (λ (sessions : ℕ). (serial by_tables (source_from c) sessions T (map wanted job.calls)).0) (sym one.sessions);
    }

pub done_as : (c : Checked) (simple : Code) (job : Job) (placement : Placement) (calls : List Call) → IsTaken c simple job → placement ≡ placement_of job → calls ≡ map (asked c.facts.main.entries) job.calls
    → {A E : Type 0} (dones : A → List Done) (r : Result A E) → IfOk r (λ a. AreServedBy simple placement calls (dones a)) → IfOk r (λ a. AreDone c job (dones a))
done_as c simple job placement calls t placed same dones (Ok a) h =
    is_done c simple job (dones a) t (subst (λ (p : Placement). AreServedBy simple p (map (asked c.facts.main.entries) job.calls) (dones a)) placed (subst (λ (cs : List Call). AreServedBy simple placement cs (dones a)) same h))
done_as c simple job placement calls t placed same dones (Err e) h = tt
