-- The serial run of a job by the meaning of the source, and its text.
use Rattle.std.specs.Prelude.{ℕ, ◌+◌, List, [], ◌∷◌, map, replicate, get_or, set, Option, Some, None, slice_get, if◌then◌else◌}
use Rattle.px_value.specs.declared.schema.Schema.{Schema}
use Rattle.px_code.specs.declared.reply.Shown.{Shown}
use Rattle.px_tree.specs.declared.Program.{Program}
use Rattle.px_tree.specs.declared.Class.{Class}
use Rattle.px_facts.specs.declared.checked.Checked.{Checked}
use Rattle.px_rows.specs.Tables.{Tables, has_key, empty_tables}
use Rattle.px_rows.specs.Means.{place_of_row, loaded}
use Rattle.px_mean.specs.Asks.{by_tables}
use Rattle.px_mean.specs.Program.{source_from}
use Rattle.px_mean.specs.Serial.{Call, Stand, serial}
use Rattle.px_job.specs.declared.job.Call.{Call as JobCall}
use Rattle.px_job.specs.declared.job.Row.{Row}
use Rattle.px_job.specs.declared.job.Job.{Job}
use Rattle.px_report.specs.declared.calls.ShownCall.{ShownCall}
use Rattle.px_report.specs.Runs.{run_text}

-- ---- the tables before the first call

-- a row whose key is there already isn't taken; no job that is accepted has one
abbrev pub with_row : Tables → Row → Tables
with_row T row = if has_key T (place_of_row row.table row.values) then T else loaded row.table row.values T

abbrev pub with_rows : Tables → List Row → Tables
with_rows T [] = T
with_rows T (row ∷ rows) = with_rows (with_row T row) rows

abbrev pub tables_of : Schema → List Row → Tables
tables_of schema rows = with_rows (empty_tables schema.tables) rows

-- ---- the run

abbrev pub wanted : JobCall → Call
wanted call = record { session = call.session; entry = call.entry; args = call.args }

abbrev pub Ran : Type 0
Ran = List Shown × Stand Tables

-- the calls in the order of the file; the tables answer what they ask
abbrev pub run_of : Checked → Job → Ran
run_of c job = serial by_tables (source_from c) job.settings.sessions (tables_of c.schema job.rows) (map wanted job.calls)

-- ---- the text

-- a class has the name that stands at its place
abbrev pub class_names : Program → List (List ℕ)
class_names program = map (λ (c : Class). c.name.bytes) program.classes

abbrev pub session_in : Option JobCall → ℕ
session_in None = 0
session_in (Some call) = call.session

-- how many calls a session has made, by its number
abbrev pub count_of : List ℕ → ℕ → ℕ
count_of counts session = get_or counts session 0

abbrev pub counted : List ℕ → ℕ → List ℕ
counted counts session = set counts session (count_of counts session + 1)

-- a call's number is that among the calls of its session, from 1
abbrev pub shown_call : List ℕ → ℕ → Shown → ShownCall
shown_call counts session shown = record { session = session; number = count_of counts session + 1; shown = shown }

-- what the calls from a place on show, where so many of each session came before
abbrev pub shown_from : List JobCall → ℕ → List ℕ → List Shown → List ShownCall
shown_from calls place counts [] = []
shown_from calls place counts (shown ∷ rest) =
    let session = session_in (slice_get calls place) in
    shown_call counts session shown ∷ shown_from calls (place + 1) (counted counts session) rest

-- sessions are numbered from 1
abbrev pub no_counts : ℕ → List ℕ
no_counts sessions = replicate (sessions + 1) 0

abbrev pub text_of : Checked → Job → Ran → List ℕ
text_of c job ran = run_text (class_names c.program) c.schema (shown_from job.calls 0 (no_counts job.settings.sessions) ran.0) ran.1.world ran.1.heaps
