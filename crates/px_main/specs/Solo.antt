-- What `solo` reports: the calls of one session, served by two ends.
use Rattle.std.specs.Prelude.{◌≡◌, ℕ, ◌+◌, List, [], ◌∷◌, Option, Some, None, map, slice_get}
use Rattle.px_facts.specs.declared.checked.Checked.{Checked}
use Rattle.px_facts.specs.declared.checked.Entry.{Entry}
use Rattle.px_code.specs.declared.code.Code.{Code}
use Rattle.px_code.specs.declared.event.Event.{Event}
use Rattle.px_code.specs.declared.event.Event.TheVariants.{Begin, End}
use Rattle.px_code.specs.declared.placement.Placement.{Placement}
use Rattle.px_code.specs.declared.plan.Plan.{Plan}
use Rattle.px_code.specs.declared.reply.Done.{Done}
use Rattle.px_code.specs.declared.reply.Shown.{Shown}
use Rattle.px_code.specs.Cut.{AreBlocks}
use Rattle.px_rows.specs.Tables.{Tables}
use Rattle.px_mean.specs.Asks.{by_tables}
use Rattle.px_mean.specs.Program.{source_from}
use Rattle.px_mean.specs.Entry.{Called as Meant, ended, exec, first_heap}
use Rattle.px_lowering.specs.Programs.{lowered}
use Rattle.px_straight.specs.Simple.{simple_code}
use Rattle.px_job.specs.declared.job.Call.{Call as JobCall}
use Rattle.px_job.specs.declared.job.Job.{Job}
use Rattle.px_job.specs.declared.job.Part.{Part}
use Rattle.px_job.specs.Placing.{sides_of}
use Rattle.px_session.specs.Serving.{Call, Called, Calling, AreServed}
use Rattle.px_report.specs.History.{report_text}
use Rattle.px_main.specs.Run.{class_names, tables_of, run_of}

-- ---- the program and the job, as two ends take them

-- the code of a program without a form that two ends don't take yet
abbrev pub code_of : Checked → Code
code_of c = simple_code (lowered c)

-- the number of an entry's method
abbrev pub method_at : Option Entry → ℕ
method_at None = 0
method_at (Some entry) = entry.method

-- a call of the job, as a session serves it
abbrev pub asked : List Entry → JobCall → Call
asked entries call = record { method = method_at (slice_get entries call.entry); args = call.args }

abbrev pub placement_in : Option Part → Placement
placement_in None = record { sides = [] }
placement_in (Some part) = sides_of part

-- under the first part, which is the only one that two ends take
abbrev pub placement_of : Job → Placement
placement_of job = placement_in (slice_get job.parts 0)

abbrev pub part_name : Part → List ℕ
part_name part = part.name

-- ---- what calls leave, by the source

abbrev pub left_by : {W : Type 0} → Meant W → Called
left_by c = record { reply = c.reply; heap = c.heap }

-- over tables, which no statement asks that two ends take
abbrev pub by_source : Checked → Tables → Calling
by_source c T heap call = left_by (ended heap T (exec by_tables (source_from c) heap T call.method call.args))

-- ---- the history

-- calls that ended, from a number on: each began once, and ended before the next
abbrev pub events_from : ℕ → List Done → List Event
events_from number [] = []
events_from number (done ∷ dones) = Begin 1 number 1 ∷ End 1 done ∷ events_from (number + 1) dones

abbrev pub history_of : List Done → List Event
history_of dones = events_from 1 dones

-- ---- the report

-- code that is split so
pub record IsPlanOf (code : Code) (placement : Placement) (plan : Plan) : Type 0 where
  pub code_is : plan.code ≡ code
  pub placement_is : plan.placement ≡ placement
  pub blocks : AreBlocks code placement.sides plan.blocks

-- what a call shows
abbrev pub shown_by : Done → Shown
shown_by done = record { reply = done.reply; prints = done.prints }

-- The calls of a job are served by a plan of the program under the job's part, with no stale read. Each replies as the source says, on the
-- heap that the calls before it leave by the source: together they show what the serial run shows.
pub record AreDone (c : Checked) (job : Job) (dones : List Done) : Type 0 where
  pub plan : Plan
  pub plan_is : IsPlanOf (code_of c) (placement_of job) plan
  pub served : AreServed (by_source c (tables_of c.schema job.rows)) plan (first_heap c.facts) [] (map (asked c.facts.main.entries) job.calls) dones
  pub serial : map shown_by dones ≡ (run_of c job).0

-- The text tells of them under the job's part; its tables and heaps are those of the serial run.
pub record IsReport (c : Checked) (job : Job) (text : List ℕ) : Type 0 where
  pub dones : List Done
  pub done : AreDone c job dones
  pub text_is : text ≡ report_text (class_names c.program) c.schema (map part_name job.parts) (history_of dones) (run_of c job).1.world (run_of c job).1.heaps
