-- The report of calls that were served.
use Rattle.std.proofs.Common.{◌≡◌, ℕ, List, map, Result, Ok, Err, IfOk, sym, ap, ◌∙◌}
use Rattle.px_value.specs.declared.object.Object.{Object}
use Rattle.px_facts.specs.declared.checked.Checked.{Checked}
use Rattle.px_code.specs.declared.event.Event.{Event}
use Rattle.px_code.specs.declared.reply.Done.{Done}
use Rattle.px_code.specs.declared.reply.Shown.{Shown}
use Rattle.px_rows.specs.Tables.{Tables}
use Rattle.px_plain.specs.Serial.{ran_of}
use Rattle.px_job.specs.declared.job.Job.{Job}
use Rattle.px_report.specs.History.{report_text}
use Rattle.px_main.specs.Run.{Ran, class_names, run_of}
use Rattle.px_main.specs.Solo.{part_name, history_of, AreDone, IsReport}

pub reported : (c : Checked) (job : Job) (dones : List Done) (events : List Event) (shown : List Shown) (heaps told : List (List Object)) (tables : Tables) (classes parts : List (List ℕ)) → AreDone c job dones → events ≡ history_of dones → run_of c job ≡ ran_of shown heaps tables → told ≡ heaps → classes ≡ class_names c.program → parts ≡ map part_name job.parts
    → {A E : Type 0} (text : A → List ℕ) (r : Result A E) → IfOk r (λ a. text a ≡ report_text classes c.schema parts events tables told) → IfOk r (λ a. IsReport c job (text a))
reported c job dones events shown heaps told tables classes parts done history run held names named text (Ok a) h =
    let heap : told ≡ (run_of c job).1.heaps = held ∙ sym (ap (λ (r : Ran). r.1.heaps) run) in
    let table : tables ≡ (run_of c job).1.world = sym (ap (λ (r : Ran). r.1.world) run) in
    record { dones = dones; done = done; text_is = h ∙ (λ i. report_text (names i) c.schema (named i) (history i) (table i) (heap i)) }
reported c job dones events shown heaps told tables classes parts done history run held names named text (Err e) h = tt
