-- What a job file means.
use Rattle.std.specs.Prelude.{◌≡◌, ℕ, ◌+◌, List, [], ◌∷◌, replicate, unwrap_or, None, Result, Ok, Err}
use Rattle.px_value.specs.declared.schema.Schema.{Schema}
use Rattle.px_value.specs.declared.schema.Table.{Table}
use Rattle.px_facts.specs.declared.checked.Checked.{Checked}
use Rattle.px_facts.specs.declared.checked.Entry.{Entry}
use Rattle.px_normal.specs.declared.code.Code.{Code}
use Rattle.px_job.specs.Lines.{lines_of}
use Rattle.px_job.specs.Settings.{nothing_stood, settings_of}
use Rattle.px_job.specs.Parts.{no_parts, begun, parts_or_app}
use Rattle.px_job.specs.Judging.{Against, noted, judged, parts_in}
use Rattle.px_job.specs.declared.settings.Settings.{Settings}
use Rattle.px_job.specs.declared.settings.Stood.{Stood}
use Rattle.px_job.specs.declared.draft.Draft.{Draft}
use Rattle.px_job.specs.declared.job.Job.{Job}
use Rattle.px_job.specs.declared.job.JobFault.{JobFault}
use Rattle.px_job.specs.declared.job.JobError.{JobError}
use Rattle.px_job.specs.declared.job.JobError.TheVariants.{Fault, NoMemory}
use Rattle.px_job.specs.declared.job.JobCode.{JobCode}

-- what the first lines of the settings' forms tell
abbrev pub noted_from : Stood → List (List ℕ) → Stood
noted_from s [] = s
noted_from s (line ∷ lines) = noted_from (noted s line) lines

-- a line, and what comes of the lines behind it by what it makes
abbrev pub joined : ℕ → Result Draft JobCode → (Draft → Result Draft JobFault) → Result Draft JobFault
joined number (Err code) on = Err (record { line = number; code = code })
joined number (Ok draft) on = on draft

-- what all lines make, or the first line, from a number on, that breaks a rule
abbrev pub drafted_from : Against → ℕ → Draft → List (List ℕ) → Result Draft JobFault
drafted_from by number draft [] = Ok draft
drafted_from by number draft (line ∷ lines) = joined number (judged by draft line) (λ so_far. drafted_from by (number + 1) so_far lines)

-- no line yet, and no reading of so many sessions
abbrev pub nothing_yet : ℕ → Draft
nothing_yet sessions = record { stood = nothing_stood; rows = []; parts = no_parts; calls = []; loads = replicate sessions []; order = None }

abbrev pub job_with : Code → Settings → Draft → Job
job_with code settings draft = record { settings = settings; rows = draft.rows; parts = parts_or_app code (begun draft.parts); calls = draft.calls; loads = draft.loads; order = unwrap_or draft.order [] }

abbrev pub finished : Code → Settings → Result Draft JobFault → Result Job JobFault
finished code settings (Err fault) = Err fault
finished code settings (Ok draft) = Ok (job_with code settings draft)

-- what the lines are judged by, under settings
abbrev pub against_with : List Entry → List Table → Code → Settings → List (List ℕ) → Against
against_with entries tables code settings lines = record { entries = entries; tables = tables; code = code; sessions = settings.sessions; parts = parts_in lines }

-- the job of lines under settings
abbrev pub job_under : List Entry → List Table → Code → Settings → List (List ℕ) → Result Job JobFault
job_under entries tables code settings lines = finished code settings (drafted_from (against_with entries tables code settings lines) 1 (nothing_yet settings.sessions) lines)

abbrev pub job_from : List Entry → List Table → Code → List (List ℕ) → Result Job JobFault
job_from entries tables code lines = job_under entries tables code (settings_of (noted_from nothing_stood lines)) lines

-- the job of a file, or its first fault
unfoldable pub job_of : Checked → Schema → Code → List ℕ → Result Job JobFault
job_of P schema code bytes = job_from P.facts.main.entries schema.tables code (lines_of bytes)

-- What was answered is what the file means, unless memory ran out.
abbrev pub Gives : {A : Type 0} → Result A JobError → Result A JobFault → Type 0
Gives (Ok answer) meaning = meaning ≡ Ok answer
Gives (Err (Fault fault)) meaning = meaning ≡ Err fault
Gives (Err NoMemory) meaning = Unit {0}
