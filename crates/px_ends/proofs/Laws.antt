-- The laws of steps and runs, in the form in which they are stated.
use Rattle.px_ends.specs.Law.{StepAgrees, AnswerAgrees, BlockAgrees, ReadsCurrent, CrossAgrees, PairStepAgrees, PairAnswerAgrees, RunAgrees}
use Rattle.px_ends.proofs.Acts.{reads_current as current}
use Rattle.px_ends.proofs.Steps.{step_alike, answer_alike, block_alike}
use Rattle.px_ends.proofs.Crossing.{transfer_alike, cross_alike}
use Rattle.px_ends.proofs.RunsAgree.{steps_agree, answers_agree, runs_agree}

pub step_agrees : StepAgrees
step_agrees plan side far n e s near one g good = step_alike plan side far n e s near one g good

pub answer_agrees : AnswerAgrees
answer_agrees plan side far s said near one g good = answer_alike plan side far s said near one g good

pub block_agrees : BlockAgrees
block_agrees plan side far n b near one g good = block_alike plan side far n b near one g good

pub reads_current : ReadsCurrent
reads_current plan side near far one o i split k = current plan side one.control.known one.control.marks near.heap far.heap one.heap o i split.heaps k

pub cross_agrees : CrossAgrees
cross_agrees plan side n near far one g = record { message = transfer_alike plan side n near far one g; agree = cross_alike plan side n near far one g }

pub pair_step_agrees : (Q W : Type 0) → PairStepAgrees Q W
pair_step_agrees Q W plan p o g good = steps_agree Q plan p o g good

pub pair_answer_agrees : (Q W : Type 0) → PairAnswerAgrees Q W
pair_answer_agrees Q W plan s t p o g good = answers_agree Q plan s t p o g good

pub run_agrees : (Q W : Type 0) → RunAgrees Q W
run_agrees Q W plan ask n p o g good = runs_agree Q plan ask n p o g good
