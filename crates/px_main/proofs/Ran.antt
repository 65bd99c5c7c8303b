-- The serial run, and its text.
use Rattle.std.proofs.Common.{◌≡◌, ℕ, List, map, Result, Ok, Err, IfOk, sym, ap, ◌∙◌}
use Rattle.px_value.specs.declared.object.Object.{Object}
use Rattle.px_code.specs.declared.reply.Shown.{Shown}
use Rattle.px_facts.specs.declared.checked.Checked.{Checked}
use Rattle.px_rows.specs.Tables.{Tables}
use Rattle.px_mean.specs.Serial.{Call}
use Rattle.px_plain.specs.Serial.{serial_of, ran_of}
use Rattle.px_job.specs.declared.job.Job.{Job}
use Rattle.px_report.specs.declared.calls.ShownCall.{ShownCall}
use Rattle.px_report.specs.Runs.{run_text}
use Rattle.px_main.specs.Run.{wanted, shown_from, no_counts, class_names, tables_of, run_of, text_of}

-- what was run of the calls that were asked, over the tables of the rows
pub served : (P : Checked) (job : Job) (asked : List Call) (before : Tables) → asked ≡ map wanted job.calls → before ≡ tables_of P.schema job.rows
    → {A E : Type 0} (shown : A → List Shown) (heaps : A → List (List Object)) (left : A → Tables) (r : Result A E) → IfOk r (λ a. serial_of P job.settings.sessions before asked ≡ ran_of (shown a) (heaps a) (left a)) → IfOk r (λ a. run_of P job ≡ ran_of (shown a) (heaps a) (left a))
served P job asked before same tables shown heaps left (Ok a) h = sym (λ i. serial_of P job.settings.sessions (tables i) (same i)) ∙ h
served P job asked before same tables shown heaps left (Err e) h = tt

pub ran : (P : Checked) (job : Job) (left : Tables) (shown : List Shown) (heaps given : List (List Object)) (names : List (List ℕ)) (told : List ShownCall) → run_of P job ≡ ran_of shown heaps left → given ≡ heaps
    → told ≡ shown_from job.calls 0 (no_counts job.settings.sessions) shown → names ≡ class_names P.program
    → {A E : Type 0} (text : A → List ℕ) (r : Result A E) → IfOk r (λ a. text a ≡ run_text names P.schema told left given) → IfOk r (λ a. text a ≡ text_of P job (run_of P job))
ran P job left shown heaps given names told run held numbered named text (Ok a) h =
    h ∙ (λ i. run_text (named i) P.schema (numbered i) left (held i)) ∙ sym (ap (text_of P job) run)
ran P job left shown heaps given names told run held numbered named text (Err e) h = tt
