use Rattle.std.proofs.Common.{arith, ap, sym, ◌∙◌, List, Option}
use Rattle.px_value.specs.declared.value.Value.{Value}
use Rattle.px_value.specs.Outcome.{Gives}
use Rattle.px_facts.specs.declared.types.Ty.{Ty}
use Rattle.px_mean.specs.Calls.{first_slots, leaves_frame}
use Rattle.px_plain.specs.View.{shared_of, frame, source_of}
use Rattle.px_plain.proofs.Frames.{no_frames, no_method, no_fact, entered, exits_frame, none_there}
use Rattle.px_plain.proofs.calls.+enter+fn-enter-run.Goals as goal

pub returns-then-around-eq0-clause-ends : goal.returns-then-around-eq0-clause-ends
returns-then-around-eq0-clause-ends t c = no_frames (source_of c.args.around.now) c.args.around.now.left c.args.method c.args.values _ (omega arith)

pub returns-in_default-clause-ends : goal.returns-in_default-clause-ends
returns-in_default-clause-ends t c =
    no_method (source_of c.args.around.now) c.args.around.now.left c.args.method c.args.values _ (omega arith) (sym c.method_at.ensures ∙ none_there _ c.in_default.not-Some)

pub returns-in_default-fact_at-clause-ends : goal.returns-in_default-fact_at-clause-ends
returns-in_default-fact_at-clause-ends t c =
    no_fact (source_of c.args.around.now) c.args.around.now.left c.args.method c.args.values _ c.in-Some.body.now (omega arith) (sym c.in-Some.ensures) (sym c.fact_at.ensures ∙ none_there _ c.in_default-fact_at.not-Some)

pub returns-in_err-next-clause-ends : goal.returns-in_err-next-clause-ends
returns-in_err-next-clause-ends t c =
    exits_frame (frame c.exec.new.slots c.exec.new.m) _ _ _ _ c.from_residual-in_err-next.ensures.1 c.in_err-next.ensures.ends
    (entered (source_of c.args.around.now) c.args.around.now.left c.args.method c.args.values c.in_ok-slots.slots (shared_of c.args.m.now) c.in-Some.body.now c.in-Some-fact_at.fact.now (omega arith) (sym c.in-Some.ensures) (sym c.in-Some-fact_at.ensures)
    (c.in_ok-slots.ensures ∙ ap (λ (types : List Ty). first_slots types c.args.values) c.as_slice.ensures))

pub returns-clause-ends : goal.returns-clause-ends
returns-clause-ends t c =
    entered (source_of c.args.around.now) c.args.around.now.left c.args.method c.args.values c.in_ok-slots.slots (shared_of c.args.m.now) c.in-Some.body.now c.in-Some-fact_at.fact.now (omega arith) (sym c.in-Some.ensures) (sym c.in-Some-fact_at.ensures)
    (c.in_ok-slots.ensures ∙ ap (λ (types : List Ty). first_slots types c.args.values) c.as_slice.ensures)
    ∙ ap leaves_frame c.in_ok-next.ensures.ends
    ∙ ap (λ (v : Option Value). Gives v (shared_of c.exec.new.m)) (sym c.result_of.ensures)
