-- How often nodes run, by the counts of a profile.
use Rattle.std.specs.Prelude.{ℕ, ◌<◌, ◌^◌, Option, Some, None, slice_get}
use Rattle.px_code.specs.declared.counts.StatementCount.{StatementCount}
use Rattle.px_code.specs.declared.counts.MethodCount.{MethodCount}
use Rattle.px_code.specs.declared.counts.Counts.{Counts}
use Rattle.px_normal.specs.declared.node.Counter.{Counter}
use Rattle.px_normal.specs.declared.node.Counter.TheVariants.{Begun, Completed, Entered, ReachedEnd}
use Rattle.px_normal.specs.declared.node.Node.{Node}
use Rattle.px_normal.specs.declared.code.Code.{Code}
use Rattle.px_normal.specs.First.{numbered}

abbrev pub begun_in : Option StatementCount → ℕ
begun_in None = 0
begun_in (Some count) = count.begun

abbrev pub completed_in : Option StatementCount → ℕ
completed_in None = 0
completed_in (Some count) = count.completed

abbrev pub entered_in : Option MethodCount → ℕ
entered_in None = 0
entered_in (Some count) = count.entered

abbrev pub by_job_in : Option MethodCount → ℕ
by_job_in None = 0
by_job_in (Some count) = count.by_job

abbrev pub ended_in : Option MethodCount → ℕ
ended_in None = 0
ended_in (Some count) = count.ended

-- what a counter tells; what isn't counted didn't run
abbrev pub told : Counts → Counter → ℕ
told counts (Begun id) = begun_in (slice_get counts.statements id)
told counts (Completed id) = completed_in (slice_get counts.statements id)
told counts (Entered method) = entered_in (numbered counts.methods method)
told counts (ReachedEnd method) = ended_in (numbered counts.methods method)

abbrev pub told_by : Counts → Option Counter → ℕ
told_by counts None = 0
told_by counts (Some counter) = told counts counter

-- the calls of a method by the job
abbrev pub job_calls_by : Counts → Option Counter → ℕ
job_calls_by counts (Some (Entered method)) = by_job_in (numbered counts.methods method)
job_calls_by counts _ = 0

abbrev pub counter_of : Option Node → Option Counter
counter_of None = None
counter_of (Some node) = node.counter

-- how often a node runs: a statement, and a method where it is entered
abbrev pub runs : Code → Counts → ℕ → ℕ
runs code counts node = told_by counts (counter_of (numbered code.nodes node))

-- how often the job calls the method of a node
abbrev pub job_calls : Code → Counts → ℕ → ℕ
job_calls code counts node = job_calls_by counts (counter_of (numbered code.nodes node))

-- no number of a profile is larger
pub record AreFew (counts : Counts) : Type 0 where
  pub told : (counter : Counter) → told counts counter < 2 ^ 32
  pub by_job : (method : ℕ) → by_job_in (numbered counts.methods method) < 2 ^ 32
