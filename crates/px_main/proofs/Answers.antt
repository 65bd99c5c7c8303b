-- The files fix the answer.
use Rattle.std.proofs.Common.{◌≡◌, ℕ, List, [], map, Option, Some, None, Result, Ok, Err, refl, sym, ap, ◌∙◌, subst, IfSome, arith}
use Rattle.px_facts.specs.declared.checked.Checked.{Checked}
use Rattle.px_tree.specs.declared.Program.{Program}
use Rattle.px_sql.specs.Tables.{schema_of}
use Rattle.px_parse.proofs.Programs.{one_line, no_program, one_program}
use Rattle.px_code.specs.declared.reply.Done.{Done}
use Rattle.px_code.proofs.OneCut.{one_cut}
use Rattle.px_mean.specs.Entry.{first_heap}
use Rattle.px_session.proofs.Once.{calls_are_told_once}
use Rattle.px_session.proofs.Kept.{keep_is_not_told}
use Rattle.px_report.specs.History.{report_text}
use Rattle.px_lowering.specs.Programs.{lowered}
use Rattle.px_parts.proofs.Once.{one_split}
use Rattle.px_job.specs.declared.job.Job.{Job}
use Rattle.px_job.specs.declared.job.JobFault.{JobFault}
use Rattle.px_main.specs.declared.command.Kind.{Kind}
use Rattle.px_main.specs.declared.command.Kind.TheVariants.{Run, Split, Solo}
use Rattle.px_main.specs.declared.fault.ProgramCode.TheVariants.{Syntax}
use Rattle.px_main.specs.Commands.{Command, Checks, Serves}
use Rattle.px_main.specs.Whole.{Found, IsFound, ungrammatical, grammatical, JudgesWhole, fault_at, by_tables}
use Rattle.px_main.specs.Run.{class_names, tables_of, run_of}
use Rattle.px_main.specs.Solo.{by_source, asked, code_of, placement_of, part_name, history_of, AreDone, IsReport}
use Rattle.px_main.specs.Answers.{Answer, taken, JudgesSplit, AnswersCalls, AnswersParts, AnswersReport, Answering, answers_run, answers_split, answers_solo, job_for, split_job_for, solo_job_for, AnswersJob, AnswersProgram, Judging, IsAnswerBy, IsAnswer, IsChecked, check_answer, Holds, AllowsCheck, AllowsBoth, FixesBoth, FixesCheck, FixesStatusBoth, FixesStatusCheck, Fixes, Reading, HasStatusBy, HasStatus, status_read, status_of_job, status_of, kept, max_program, max_job}

-- ---- what is found in a text is fixed

found_once : (bytes : List ℕ) (f g : Found) → IsFound bytes f → IsFound bytes g → f ≡ g
found_once bytes f g (ungrammatical l at e) (ungrammatical m also e') = e ∙ ap (λ (n : ℕ). Err (fault_at n Syntax)) (one_line bytes l m at also) ∙ sym e'
found_once bytes f g (ungrammatical l at e) (grammatical p is e') = absurd (no_program bytes l p at is)
found_once bytes f g (grammatical p is e) (ungrammatical m at e') = absurd (no_program bytes m p at is)
found_once bytes f g (grammatical p is e) (grammatical q also e') = e ∙ ap (λ (r : Program). by_tables r (schema_of r.tables)) (one_program bytes p q is also) ∙ sym e'

judges_whole_once : (file : Option (List ℕ)) (f g : Found) → JudgesWhole file f → JudgesWhole file g → f ≡ g
judges_whole_once None f g h k = h ∙ sym k
judges_whole_once (Some bytes) f g h k = found_once bytes f g h k

-- and so is what comes of it for `solo`
judges_split_once : (file : Option (List ℕ)) (f g : Found) → JudgesSplit file f → JudgesSplit file g → f ≡ g
judges_split_once file f g h k = h.is ∙ ap taken (judges_whole_once file h.found k.found h.judged k.judged) ∙ sym k.is

-- ---- two reports of the same calls are one

-- the code and the placement fix the blocks, and these what is told of the calls; what the plans keep doesn't show
done_once : (c : Checked) (job : Job) (dones that_dones : List Done) → AreDone c job dones → AreDone c job that_dones → dones ≡ that_dones
done_once c job dones that_dones h k =
    let calling = by_source c (tables_of c.schema job.rows) in
    let heap = first_heap c.facts in
    let calls = map (asked c.facts.main.entries) job.calls in
    calls_are_told_once calling k.plan heap [] calls dones that_dones
    (keep_is_not_told calling h.plan k.plan (h.plan_is.code_is ∙ sym k.plan_is.code_is) (h.plan_is.placement_is ∙ sym k.plan_is.placement_is) (one_cut (code_of c) (placement_of job).sides h.plan.blocks k.plan.blocks h.plan_is.blocks k.plan_is.blocks) heap [] calls dones h.served)
    k.served

one_report : (c : Checked) (job : Job) (t u : List ℕ) → IsReport c job t → IsReport c job u → t ≡ u
one_report c job t u h k =
    h.text_is ∙ ap (λ (ds : List Done). report_text (class_names c.program) c.schema (map part_name job.parts) (history_of ds) (run_of c job).1.world (run_of c job).1.heaps) (done_once c job h.dones k.dones h.done k.done) ∙ sym k.text_is

-- ---- two answers over the same files are one

calls_once : (c : Checked) (job : Result Job JobFault) (a b : Answer) → AnswersCalls c job a → AnswersCalls c job b → a ≡ b
calls_once c (Err f) a b h k = h ∙ sym k
calls_once c (Ok job) a b h k = h ∙ sym k

parts_once : (c : Checked) (job : Result Job JobFault) (a b : Answer) → AnswersParts c job a → AnswersParts c job b → a ≡ b
parts_once c (Err f) a b h k = h ∙ sym k
parts_once c (Ok job) a b h k = λ i. ((h.0 ∙ sym k.0) i, one_split (lowered c) job.parts a.1 b.1 h.1 k.1 i)

report_once : (c : Checked) (job : Result Job JobFault) (a b : Answer) → AnswersReport c job a → AnswersReport c job b → a ≡ b
report_once c (Err f) a b h k = h ∙ sym k
report_once c (Ok job) a b h k = λ i. ((h.0 ∙ sym k.0) i, one_report c job a.1 b.1 h.1 k.1 i)

run_once : (c : Checked) (job : List ℕ) (a b : Answer) → answers_run c job a → answers_run c job b → a ≡ b
run_once c job a b h k = calls_once c (job_for c job) a b h k

split_once : (c : Checked) (job : List ℕ) (a b : Answer) → answers_split c job a → answers_split c job b → a ≡ b
split_once c job a b h k = parts_once c (split_job_for c job) a b h k

solo_once : (c : Checked) (job : List ℕ) (a b : Answer) → answers_solo c job a → answers_solo c job b → a ≡ b
solo_once c job a b h k = report_once c (solo_job_for c job) a b h k

module _ (judges : Judging) (answers : Answering) (judged_once : (file : Option (List ℕ)) (o o' : Found) → judges file o → judges file o' → o ≡ o') (answers_once : (c : Checked) (job : List ℕ) (a b : Answer) → answers c job a → answers c job b → a ≡ b) where
  job_once : (c : Checked) (job : Option (List ℕ)) (a b : Answer) → AnswersJob answers c job a → AnswersJob answers c job b → a ≡ b
  job_once c None a b h k = h ∙ sym k
  job_once c (Some job) a b h k = answers_once c job a b h k

  program_once : (o : Found) (job : Option (List ℕ)) (a b : Answer) → AnswersProgram answers o job a → AnswersProgram answers o job b → a ≡ b
  program_once (Err f) job a b h k = h ∙ sym k
  program_once (Ok c) job a b h k = job_once c job a b h k

  answer_once : (program job : Option (List ℕ)) (a b : Answer) → IsAnswerBy judges answers program job a → IsAnswerBy judges answers program job b → a ≡ b
  answer_once program job a b h k =
      let same : h.outcome ≡ k.outcome = judged_once program h.outcome k.outcome h.judged k.judged in
      program_once k.outcome job a b (subst (λ (o : Found). AnswersProgram answers o job a) same h.answered) k.answered

one_answer : (kind : Kind) (program job : Option (List ℕ)) (a b : Answer) → IsAnswer kind program job a → IsAnswer kind program job b → a ≡ b
one_answer Run program job a b h k = answer_once JudgesWhole answers_run judges_whole_once run_once program job a b h k
one_answer Split program job a b h k = answer_once JudgesWhole answers_split judges_whole_once split_once program job a b h k
one_answer Solo program job a b h k = answer_once JudgesSplit answers_solo judges_split_once solo_once program job a b h k

-- ---- only a refused program gives status 5, whatever the job is

calls_not_five : (c : Checked) (job : Result Job JobFault) (a : Answer) → AnswersCalls c job a → a.0 ≡ 5 → ⊥
calls_not_five c (Err f) a h five = let e = ap (λ (x : Answer). x.0) h in absurd (omega arith)
calls_not_five c (Ok job) a h five = let e = ap (λ (x : Answer). x.0) h in absurd (omega arith)

parts_not_five : (c : Checked) (job : Result Job JobFault) (a : Answer) → AnswersParts c job a → a.0 ≡ 5 → ⊥
parts_not_five c (Err f) a h five = let e = ap (λ (x : Answer). x.0) h in absurd (omega arith)
parts_not_five c (Ok job) a h five = let e = h.0 in absurd (omega arith)

report_not_five : (c : Checked) (job : Result Job JobFault) (a : Answer) → AnswersReport c job a → a.0 ≡ 5 → ⊥
report_not_five c (Err f) a h five = let e = ap (λ (x : Answer). x.0) h in absurd (omega arith)
report_not_five c (Ok job) a h five = let e = h.0 in absurd (omega arith)

run_not_five : (c : Checked) (job : List ℕ) (a : Answer) → answers_run c job a → a.0 ≡ 5 → ⊥
run_not_five c job a h five = calls_not_five c (job_for c job) a h five

split_not_five : (c : Checked) (job : List ℕ) (a : Answer) → answers_split c job a → a.0 ≡ 5 → ⊥
split_not_five c job a h five = parts_not_five c (split_job_for c job) a h five

solo_not_five : (c : Checked) (job : List ℕ) (a : Answer) → answers_solo c job a → a.0 ≡ 5 → ⊥
solo_not_five c job a h five = report_not_five c (solo_job_for c job) a h five

module _ (judges : Judging) (answers : Answering) (not_five : (c : Checked) (job : List ℕ) (a : Answer) → answers c job a → a.0 ≡ 5 → ⊥) where
  job_not_five : (c : Checked) (job : Option (List ℕ)) (a : Answer) → AnswersJob answers c job a → a.0 ≡ 5 → ⊥
  job_not_five c None a h five = let e = ap (λ (x : Answer). x.0) h in absurd (omega arith)
  job_not_five c (Some job) a h five = not_five c job a h five

  without_job : (o : Found) (job job' : Option (List ℕ)) (a : Answer) → AnswersProgram answers o job a → a.0 ≡ 5 → AnswersProgram answers o job' a
  without_job (Err f) job job' a h five = h
  without_job (Ok c) job job' a h five = absurd (job_not_five c job a h five)

  answers_without : (program job job' : Option (List ℕ)) (a : Answer) → IsAnswerBy judges answers program job a → a.0 ≡ 5 → IsAnswerBy judges answers program job' a
  answers_without program job job' a h five = record { outcome = h.outcome; judged = h.judged; answered = without_job h.outcome job job' a h.answered five }

without : (kind : Kind) (program job job' : Option (List ℕ)) (a : Answer) → IsAnswer kind program job a → a.0 ≡ 5 → IsAnswer kind program job' a
without Run program job job' a h five = answers_without JudgesWhole answers_run run_not_five program job job' a h five
without Split program job job' a h five = answers_without JudgesWhole answers_split split_not_five program job job' a h five
without Solo program job job' a h five = answers_without JudgesSplit answers_solo solo_not_five program job job' a h five

-- ---- as far as the files are told

pub allowed : (kind : Kind) (hp hj kp kj : Option (List ℕ)) (a : Answer) → IfSome hp (λ file. kept max_program file ≡ kp) → IfSome hj (λ file. kept max_job file ≡ kj) → IsAnswer kind kp kj a → AllowsBoth kind hp hj a
allowed kind None hj kp kj a p j h = tt
allowed kind (Some program) None kp kj a p j h = λ five. subst (λ (k : Option (List ℕ)). IsAnswer kind k (kept max_job []) a) (sym p) (without kind kp kj (kept max_job []) a h five)
allowed kind (Some program) (Some job) kp kj a p j h = subst (λ (k : Option (List ℕ)). IsAnswer kind k (kept max_job job) a) (sym p) (subst (λ (k : Option (List ℕ)). IsAnswer kind kp k a) (sym j) h)

both_fix_once : (kind : Kind) (hp hj : Option (List ℕ)) (a b : Answer) → FixesBoth kind hp hj a → FixesBoth kind hp hj b → a ≡ b
both_fix_once kind None hj a b f g = absurd f
both_fix_once kind (Some program) None a b f g = one_answer kind (kept max_program program) (kept max_job []) a b f.1 g.1
both_fix_once kind (Some program) (Some job) a b f g = one_answer kind (kept max_program program) (kept max_job job) a b f g

-- ---- of a program alone

one_check : (program : Option (List ℕ)) (a b : Answer) → IsChecked program a → IsChecked program b → a ≡ b
one_check program a b h k = h.is ∙ ap check_answer (judges_whole_once program h.found k.found h.judges k.judges) ∙ sym k.is

check_fixes_once : (hp : Option (List ℕ)) (a b : Answer) → FixesCheck hp a → FixesCheck hp b → a ≡ b
check_fixes_once None a b f g = absurd f
check_fixes_once (Some program) a b f g = one_check (kept max_program program) a b f g

pub check_allowed : (hp kp : Option (List ℕ)) (a : Answer) → IfSome hp (λ file. kept max_program file ≡ kp) → IsChecked kp a → AllowsCheck hp a
check_allowed None kp a p h = tt
check_allowed (Some program) kp a p h = subst (λ (k : Option (List ℕ)). IsChecked k a) (sym p) h

pub check_fixed : (hp kp : Option (List ℕ)) (a : Answer) (n : ℕ) → IfSome hp (λ file. kept max_program file ≡ kp) → IsChecked kp a → FixesStatusCheck hp n → n ≡ a.0
check_fixed None kp a n p h f = absurd f
check_fixed (Some program) kp a n p h f =
    sym f.is ∙ ap (λ (x : Answer). x.0) (one_check kp f.answer a (subst (λ (k : Option (List ℕ)). IsChecked k f.answer) p f.is_answer) h)

-- the files fix one answer at most
pub fixes_once : (c : Command) (holds : Holds) (a b : Answer) → Fixes c holds a → Fixes c holds b → a ≡ b
fixes_once (Checks program) holds a b f g = check_fixes_once (holds program) a b f g
fixes_once (Serves kind program job) holds a b f g = both_fix_once kind (holds program) (holds job) a b f g

-- ---- the status alone

calls_status : (c : Checked) (job : Result Job JobFault) (a : Answer) → AnswersCalls c job a → a.0 ≡ status_read job
calls_status c (Err f) a h = ap (λ (x : Answer). x.0) h
calls_status c (Ok job) a h = ap (λ (x : Answer). x.0) h

parts_status : (c : Checked) (job : Result Job JobFault) (a : Answer) → AnswersParts c job a → a.0 ≡ status_read job
parts_status c (Err f) a h = ap (λ (x : Answer). x.0) h
parts_status c (Ok job) a h = h.0

report_status : (c : Checked) (job : Result Job JobFault) (a : Answer) → AnswersReport c job a → a.0 ≡ status_read job
report_status c (Err f) a h = ap (λ (x : Answer). x.0) h
report_status c (Ok job) a h = h.0

read_no_five : (r : Result Job JobFault) → status_read r ≡ 5 → ⊥
read_no_five (Err f) h = absurd (omega (arith, h))
read_no_five (Ok x) h = absurd (omega (arith, h))

run_status : (c : Checked) (job : List ℕ) (a : Answer) → answers_run c job a → a.0 ≡ status_read (job_for c job)
run_status c job a h = calls_status c (job_for c job) a h

split_status : (c : Checked) (job : List ℕ) (a : Answer) → answers_split c job a → a.0 ≡ status_read (split_job_for c job)
split_status c job a h = parts_status c (split_job_for c job) a h

solo_status : (c : Checked) (job : List ℕ) (a : Answer) → answers_solo c job a → a.0 ≡ status_read (solo_job_for c job)
solo_status c job a h = report_status c (solo_job_for c job) a h

module _ (judges : Judging) (answers : Answering) (reads : Reading) (judged_once : (file : Option (List ℕ)) (o o' : Found) → judges file o → judges file o' → o ≡ o') (is_status : (c : Checked) (job : List ℕ) (a : Answer) → answers c job a → a.0 ≡ status_read (reads c job)) where
  job_status : (c : Checked) (job : Option (List ℕ)) (a : Answer) → AnswersJob answers c job a → a.0 ≡ status_of_job reads c job
  job_status c None a h = ap (λ (x : Answer). x.0) h
  job_status c (Some job) a h = is_status c job a h

  answer_status : (o : Found) (job : Option (List ℕ)) (a : Answer) → AnswersProgram answers o job a → a.0 ≡ status_of reads o job
  answer_status (Err f) job a h = ap (λ (x : Answer). x.0) h
  answer_status (Ok c) job a h = job_status c job a h

  job_no_five : (c : Checked) (job : Option (List ℕ)) → status_of_job reads c job ≡ 5 → ⊥
  job_no_five c None h = absurd (omega (arith, h))
  job_no_five c (Some job) h = read_no_five (reads c job) h

  -- status 5 needs no job
  five_without : (o : Found) (job job' : Option (List ℕ)) → status_of reads o job ≡ 5 → status_of reads o job' ≡ 5
  five_without (Err f) job job' h = refl
  five_without (Ok c) job job' h = absurd (job_no_five c job h)

  same_status : (program job : Option (List ℕ)) (a : Answer) (n : ℕ) → IsAnswerBy judges answers program job a → HasStatusBy judges reads program job n → n ≡ a.0
  same_status program job a n h k =
      sym k.is ∙ ap (λ (o : Found). status_of reads o job) (judged_once program k.outcome h.outcome k.judged h.judged) ∙ sym (answer_status h.outcome job a h.answered)

  same_five : (program job job' : Option (List ℕ)) (a : Answer) (n : ℕ) → n ≡ 5 → IsAnswerBy judges answers program job a → HasStatusBy judges reads program job' n → n ≡ a.0
  same_five program job job' a n five h k =
      five ∙ sym (five_without k.outcome job' job (k.is ∙ five)) ∙ same_status program job a (status_of reads k.outcome job) h (record { outcome = k.outcome; judged = k.judged; is = refl })

status_once : (kind : Kind) (program job : Option (List ℕ)) (a : Answer) (n : ℕ) → IsAnswer kind program job a → HasStatus kind program job n → n ≡ a.0
status_once Run program job a n h k = same_status JudgesWhole answers_run job_for judges_whole_once run_status program job a n h k
status_once Split program job a n h k = same_status JudgesWhole answers_split split_job_for judges_whole_once split_status program job a n h k
status_once Solo program job a n h k = same_status JudgesSplit answers_solo solo_job_for judges_split_once solo_status program job a n h k

five_once : (kind : Kind) (program job job' : Option (List ℕ)) (a : Answer) (n : ℕ) → n ≡ 5 → IsAnswer kind program job a → HasStatus kind program job' n → n ≡ a.0
five_once Run program job job' a n five h k = same_five JudgesWhole answers_run job_for judges_whole_once run_status program job job' a n five h k
five_once Split program job job' a n five h k = same_five JudgesWhole answers_split split_job_for judges_whole_once split_status program job job' a n five h k
five_once Solo program job job' a n five h k = same_five JudgesSplit answers_solo solo_job_for judges_split_once solo_status program job job' a n five h k

pub fixed : (kind : Kind) (hp hj kp kj : Option (List ℕ)) (a : Answer) (n : ℕ) → IfSome hp (λ file. kept max_program file ≡ kp) → IfSome hj (λ file. kept max_job file ≡ kj) → IsAnswer kind kp kj a → FixesStatusBoth kind hp hj n → n ≡ a.0
fixed kind None hj kp kj a n p j h f = absurd f
fixed kind (Some program) None kp kj a n p j h f =
    five_once kind kp kj (kept max_job []) a n f.0 h (subst (λ (q : Option (List ℕ)). HasStatus kind q (kept max_job []) n) p f.1)
fixed kind (Some program) (Some job) kp kj a n p j h f =
    status_once kind kp kj a n h (subst (λ (q : Option (List ℕ)). HasStatus kind kp q n) j (subst (λ (q : Option (List ℕ)). HasStatus kind q (kept max_job job) n) p f))
