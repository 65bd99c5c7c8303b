-- What a command answers over the bytes of its files: a status, and all that is to be written with it.
use Rattle.std.specs.Prelude.{◌≡◌, ℕ, false, List, [], ◌∷◌, ◌++◌, length, Option, Some, None, Result, Ok, Err, codes, decimal, nat_lt, if◌then◌else◌}
use Rattle.px_facts.specs.declared.checked.Checked.{Checked}
use Rattle.px_code.specs.declared.code.Code.{Code}
use Rattle.px_lowering.specs.Programs.{lowered}
use Rattle.px_straight.specs.Straight.{straight}
use Rattle.px_job.specs.declared.job.Job.{Job}
use Rattle.px_job.specs.declared.job.JobFault.{JobFault}
use Rattle.px_job.specs.declared.job.JobCode.{JobCode}
use Rattle.px_job.specs.declared.job.JobCode.TheVariants as code
use Rattle.px_job.specs.Lines.{lines_of}
use Rattle.px_job.specs.Jobs.{job_of}
use Rattle.px_job.specs.Beyond.{beyond_from, budget_from}
use Rattle.px_parts.specs.Texts.{IsSplitText}
use Rattle.px_report.specs.Lines.{line}
use Rattle.px_main.specs.declared.command.Kind.{Kind}
use Rattle.px_main.specs.declared.command.Kind.TheVariants.{Run, Split, Solo}
use Rattle.px_main.specs.declared.fault.Fault.{Fault}
use Rattle.px_main.specs.declared.fault.ProgramCode.{ProgramCode}
use Rattle.px_main.specs.declared.fault.ProgramCode.TheVariants.{TooLong, Syntax, Rule, Later}
use Rattle.px_main.specs.Commands.{Command, Checks, Serves}
use Rattle.px_main.specs.Whole.{Found, fault_at, JudgesWhole}
use Rattle.px_main.specs.Run.{run_of, text_of}
use Rattle.px_main.specs.Solo.{IsReport}

abbrev pub max_program : ℕ
max_program = 1048576

abbrev pub max_job : ℕ
max_job = 16777216

-- a file within its limit
abbrev pub kept : ℕ → List ℕ → Option (List ℕ)
kept limit file = if nat_lt limit (length file) then None else Some file

-- ---- the program of `solo`

-- a program by its code: two ends take all of it, or not the statement at this line
abbrev pub unless_later : Checked → Result Code ℕ → Found
unless_later c (Ok simple) = Ok c
unless_later c (Err number) = Err (fault_at number Later)

abbrev pub taken : Found → Found
taken (Err fault) = Err fault
taken (Ok c) = unless_later c (straight (lowered c))

-- What comes of a program file that is served by two ends: what is found in it, and then whether they take it.
pub record JudgesSplit (program : Option (List ℕ)) (outcome : Found) : Type 0 where
  pub found : Found
  pub judged : JudgesWhole program found
  pub is : outcome ≡ taken found

-- ---- the answer

abbrev pub Answer : Type 0
Answer = ℕ × List ℕ

abbrev pub program_code : ProgramCode → List ℕ
program_code TooLong = codes "TooLong"
program_code Syntax = codes "Syntax"
program_code (Rule number) = codes "T" ++ decimal number
program_code Later = codes "Later"

abbrev pub job_code : JobCode → List ℕ
job_code code.Later = codes "Later"
job_code code.J1 = codes "J1"
job_code code.J3 = codes "J3"
job_code code.J4 = codes "J4"
job_code code.J5 = codes "J5"
job_code code.J6 = codes "J6"
job_code code.J7 = codes "J7"
job_code code.J8 = codes "J8"
job_code code.J9 = codes "J9"
job_code code.J10 = codes "J10"
job_code code.J11 = codes "J11"
job_code code.J12 = codes "J12"
job_code code.J13 = codes "J13"
job_code code.J14 = codes "J14"
job_code code.J15 = codes "J15"
job_code code.J16 = codes "J16"
job_code code.J17 = codes "J17"
job_code code.J18 = codes "J18"
job_code code.J19 = codes "J19"
job_code code.J20 = codes "J20"

abbrev pub refused_program : Fault → Answer
refused_program f = (5, line (codes "program" ∷ decimal f.line ∷ program_code f.code ∷ []))

abbrev pub refused_job : ℕ → List ℕ → Answer
refused_job number name = (6, line (codes "job" ∷ decimal number ∷ name ∷ []))

abbrev pub refused_by : JobFault → Answer
refused_by f = refused_job f.line (job_code f.code)

-- a job that is read by a command that doesn't take this line yet
abbrev pub taken_job : Option ℕ → Job → Result Job JobFault
taken_job None job = Ok job
taken_job (Some number) job = Err (record { line = number; code = code.Later })

abbrev pub taken_if : Option ℕ → Result Job JobFault → Result Job JobFault
taken_if beyond (Err f) = Err f
taken_if beyond (Ok job) = taken_job beyond job

-- the job of a file for an accepted program
abbrev pub job_for : Checked → List ℕ → Result Job JobFault
job_for c bytes = job_of c c.schema (lowered c) bytes

-- `solo` takes no line that two ends don't take yet, `split` no part with a budget
abbrev pub solo_job_for : Checked → List ℕ → Result Job JobFault
solo_job_for c bytes = taken_if (beyond_from 1 false (lines_of bytes)) (job_for c bytes)

abbrev pub split_job_for : Checked → List ℕ → Result Job JobFault
split_job_for c bytes = taken_if (budget_from 1 (lines_of bytes)) (job_for c bytes)

-- `a` is an answer over the job that was read, or over what is wrong with it: `run` has one
abbrev pub AnswersCalls : Checked → Result Job JobFault → Answer → Type 0
AnswersCalls c (Err f) a = a ≡ refused_by f
AnswersCalls c (Ok job) a = a ≡ (0, text_of c job (run_of c job))

-- `split` answers with the texts of the parts
abbrev pub AnswersParts : Checked → Result Job JobFault → Answer → Type 0
AnswersParts c (Err f) a = a ≡ refused_by f
AnswersParts c (Ok job) a = (a.0 ≡ 0) × IsSplitText (lowered c) job.parts a.1

-- `solo` answers with a report
abbrev pub AnswersReport : Checked → Result Job JobFault → Answer → Type 0
AnswersReport c (Err f) a = a ≡ refused_by f
AnswersReport c (Ok job) a = (a.0 ≡ 0) × IsReport c job a.1

-- what a command makes of an accepted program and a job
abbrev pub Answering : Type 1
Answering = Checked → List ℕ → Answer → Type 0

abbrev pub answers_run : Answering
answers_run c job a = AnswersCalls c (job_for c job) a

abbrev pub answers_split : Answering
answers_split c job a = AnswersParts c (split_job_for c job) a

abbrev pub answers_solo : Answering
answers_solo c job a = AnswersReport c (solo_job_for c job) a

abbrev pub AnswersJob : Answering → Checked → Option (List ℕ) → Answer → Type 0
AnswersJob answers c None a = a ≡ refused_job 0 (codes "J2")
AnswersJob answers c (Some job) a = answers c job a

abbrev pub AnswersProgram : Answering → Found → Option (List ℕ) → Answer → Type 0
AnswersProgram answers (Err f) job a = a ≡ refused_program f
AnswersProgram answers (Ok c) job a = AnswersJob answers c job a

-- what comes of a program file
abbrev pub Judging : Type 1
Judging = Option (List ℕ) → Found → Type 0

-- `a` is an answer of a command that judges so and answers so, over what was kept of its two files
pub record IsAnswerBy (judges : Judging) (answers : Answering) (program job : Option (List ℕ)) (a : Answer) : Type 0 where
  pub outcome : Found
  pub judged : judges program outcome
  pub answered : AnswersProgram answers outcome job a

abbrev pub IsAnswer : Kind → Option (List ℕ) → Option (List ℕ) → Answer → Type 0
IsAnswer Run program job a = IsAnswerBy JudgesWhole answers_run program job a
IsAnswer Split program job a = IsAnswerBy JudgesWhole answers_split program job a
IsAnswer Solo program job a = IsAnswerBy JudgesSplit answers_solo program job a

-- the same over the files
abbrev pub Answers : Kind → List ℕ → List ℕ → Answer → Type 0
Answers kind program job a = IsAnswer kind (kept max_program program) (kept max_job job) a

-- What both files allow as an answer, as far as the shelf tells them. A program that is refused needs no job.
abbrev pub AllowsBoth : Kind → Option (List ℕ) → Option (List ℕ) → Answer → Type 0
AllowsBoth kind None job a = Unit {0}
AllowsBoth kind (Some program) None a = a.0 ≡ 5 → Answers kind program [] a
AllowsBoth kind (Some program) (Some job) a = Answers kind program job a

-- what both files fix as the answer, as far as the shelf tells them
abbrev pub FixesBoth : Kind → Option (List ℕ) → Option (List ℕ) → Answer → Type 0
FixesBoth kind None job a = ⊥
FixesBoth kind (Some program) None a = (a.0 ≡ 5) × Answers kind program [] a
FixesBoth kind (Some program) (Some job) a = Answers kind program job a

-- ---- the status alone

-- of a job that was read
abbrev pub status_read : Result Job JobFault → ℕ
status_read (Err f) = 6
status_read (Ok job) = 0

abbrev pub Reading : Type 0
Reading = Checked → List ℕ → Result Job JobFault

abbrev pub status_of_job : Reading → Checked → Option (List ℕ) → ℕ
status_of_job reads c None = 6
status_of_job reads c (Some job) = status_read (reads c job)

abbrev pub status_of : Reading → Found → Option (List ℕ) → ℕ
status_of reads (Err f) job = 5
status_of reads (Ok c) job = status_of_job reads c job

-- the program is judged, and then the job is read
pub record HasStatusBy (judges : Judging) (reads : Reading) (program job : Option (List ℕ)) (n : ℕ) : Type 0 where
  pub outcome : Found
  pub judged : judges program outcome
  pub is : status_of reads outcome job ≡ n

abbrev pub HasStatus : Kind → Option (List ℕ) → Option (List ℕ) → ℕ → Type 0
HasStatus Run program job n = HasStatusBy JudgesWhole job_for program job n
HasStatus Split program job n = HasStatusBy JudgesWhole split_job_for program job n
HasStatus Solo program job n = HasStatusBy JudgesSplit solo_job_for program job n

abbrev pub Statuses : Kind → List ℕ → List ℕ → ℕ → Type 0
Statuses kind program job n = HasStatus kind (kept max_program program) (kept max_job job) n

-- what both files fix as the status: 0 where both are accepted
abbrev pub FixesStatusBoth : Kind → Option (List ℕ) → Option (List ℕ) → ℕ → Type 0
FixesStatusBoth kind None job n = ⊥
FixesStatusBoth kind (Some program) None n = (n ≡ 5) × Statuses kind program [] n
FixesStatusBoth kind (Some program) (Some job) n = Statuses kind program job n

-- ---- a program alone

abbrev pub check_answer : Found → Answer
check_answer (Ok checked) = (0, line (codes "ok" ∷ []))
check_answer (Err f) = refused_program f

-- `a` is the answer to `check` over what was kept of its file
pub record IsChecked (program : Option (List ℕ)) (a : Answer) : Type 0 where
  pub found : Found
  pub judges : JudgesWhole program found
  pub is : a ≡ check_answer found

abbrev pub AllowsCheck : Option (List ℕ) → Answer → Type 0
AllowsCheck None a = Unit {0}
AllowsCheck (Some program) a = IsChecked (kept max_program program) a

abbrev pub FixesCheck : Option (List ℕ) → Answer → Type 0
FixesCheck None a = ⊥
FixesCheck (Some program) a = IsChecked (kept max_program program) a

pub record HasCheckStatus (program : List ℕ) (n : ℕ) : Type 0 where
  pub answer : Answer
  pub is_answer : IsChecked (kept max_program program) answer
  pub is : answer.0 ≡ n

abbrev pub FixesStatusCheck : Option (List ℕ) → ℕ → Type 0
FixesStatusCheck None n = ⊥
FixesStatusCheck (Some program) n = HasCheckStatus program n

-- ---- commands, by what a shelf holds, as far as it tells

abbrev pub Holds : Type 0
Holds = List ℕ → Option (List ℕ)

-- the files allow this answer
abbrev pub Allows : Command → Holds → Answer → Type 0
Allows (Checks program) holds = AllowsCheck (holds program)
Allows (Serves kind program job) holds = AllowsBoth kind (holds program) (holds job)

-- they fix it
abbrev pub Fixes : Command → Holds → Answer → Type 0
Fixes (Checks program) holds = FixesCheck (holds program)
Fixes (Serves kind program job) holds = FixesBoth kind (holds program) (holds job)

-- they fix this status
abbrev pub FixesStatus : Command → Holds → ℕ → Type 0
FixesStatus (Checks program) holds = FixesStatusCheck (holds program)
FixesStatus (Serves kind program job) holds = FixesStatusBoth kind (holds program) (holds job)
