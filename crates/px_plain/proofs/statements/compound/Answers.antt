use Rattle.std.proofs.Common.{ap, sym, ◌∙◌, List}
use Rattle.px_value.specs.declared.value.Value.{Value}
use Rattle.px_value.specs.Outcome.{Gives, then_run}
use Rattle.px_value.specs.Operators.{Applied}
use Rattle.px_mean.specs.Run.{came_to}
use Rattle.px_mean.specs.Facts.{op_of}
use Rattle.px_mean.specs.Expressions.{assign_slot}
use Rattle.px_plain.specs.View.{Here, frame, says}
use Rattle.px_plain.proofs.Steps.{exits, stops_came}
use Rattle.px_plain.proofs.Runs.{type_says}
use Rattle.px_plain.proofs.Does.{change_is}
use Rattle.px_plain.proofs.statements.compound.Goals as goal

pub returns-in_err-value-in-Local-clause-ends : goal.returns-in_err-value-in-Local-clause-ends
returns-in_err-value-in-Local-clause-ends g c =
    let far : Here = frame c.args.slots.now c.eval.new.m in
    exits far _ _ _ (assign_slot c.in-Local.slot) _ c.from_residual-in_err-value-in-Local.ensures.1 (stops_came far _ _ c.in_err-value-in-Local.ensures)
    (change_is c.in-Local.slot _ c.op_of-op.result (says c.args.around.now c.args.value.now).run _ far _ _ _ (sym c.named_at.ensures ∙ c.in-Local.is) c.in_ok-a-in-Local.ensures c.in_ok-b-in-Local.ensures.ends
    (c.op_of-op.ensures ∙ (λ i. op_of c.args.sign (c.type_at.ensures i) ((c.type_at-2.ensures ∙ sym (type_says c.args.around.now c.args.value.now)) i))))

pub returns-in_ok-value-in-Local-clause-ends : goal.returns-in_ok-value-in-Local-clause-ends
returns-in_ok-value-in-Local-clause-ends g c =
    let far : Here = frame c.args.slots.now c.eval.new.m in
    change_is c.in-Local.slot _ c.op_of-op.result (says c.args.around.now c.args.value.now).run _ far _ _ _ (sym c.named_at.ensures ∙ c.in-Local.is) c.in_ok-a-in-Local.ensures c.in_ok-b-in-Local.ensures.ends
    (c.op_of-op.ensures ∙ (λ i. op_of c.args.sign (c.type_at.ensures i) ((c.type_at-2.ensures ∙ sym (type_says c.args.around.now c.args.value.now)) i)))
    ∙ ap (λ (x : Applied). then_run (came_to x far) (assign_slot c.in-Local.slot)) c.in_ok-value-in-Local.ensures
    ∙ ap (λ (slots : List Value). Gives tt (frame slots c.eval.new.m)) (sym c.set_slot.ensures)
