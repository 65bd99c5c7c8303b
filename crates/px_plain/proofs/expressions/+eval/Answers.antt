use Rattle.std.proofs.Common.{ap, sym, ◌∙◌, List, ℕ, Bool, Option, if◌then◌else◌}
use Rattle.px_value.specs.declared.value.Value.{Value}
use Rattle.px_value.specs.declared.value.Value.TheVariants.{Text}
use Rattle.px_value.specs.Outcome.{Gives, then_run, ◌>>=◌, pure}
use Rattle.px_value.specs.Operators.{Applied}
use Rattle.px_mean.specs.Run.{came_to}
use Rattle.px_facts.specs.declared.types.Ty.{Ty}
use Rattle.px_facts.specs.declared.checked.Named.{Named}
use Rattle.px_mean.specs.Expressions.{literal, member_value, widened, prefixed, combined, decides}
use Rattle.px_mean.specs.Facts.{prefix_of, type_at}
use Rattle.px_value.specs.declared.op.Op.{Op}
use Rattle.px_plain.specs.Parts.{operand_value}
use Rattle.px_plain.specs.View.{Here, frame, says}
use Rattle.px_plain.proofs.Steps.{exits, gives_then, same_end, ends_came}
use Rattle.px_plain.proofs.Runs.{type_says, run_number, run_text, run_true, run_false, run_null, run_this, run_name, run_group, run_field, run_index, run_call, run_new_object, run_new_array, run_prefix, run_binary}
use Rattle.px_plain.proofs.expressions.+eval.Goals as goal

pub eval-returns-in-Number-clause-ends : goal.eval-returns-in-Number-clause-ends
eval-returns-in-Number-clause-ends g t c =
    run_number c.args.around.now c.args.e.now _ _ _ c.in-Number.is
    ∙ ap (λ (v : Value). Gives v (frame c.args.slots.now c.args.m.now)) (sym (c.literal.ensures ∙ ap (λ (d : List ℕ). literal d c.in-Number.long) c.as_slice.ensures))

pub eval-returns-in-True-clause-ends : goal.eval-returns-in-True-clause-ends
eval-returns-in-True-clause-ends g t c = run_true c.args.around.now c.args.e.now _ c.in-True.is

pub eval-returns-in-False-clause-ends : goal.eval-returns-in-False-clause-ends
eval-returns-in-False-clause-ends g t c = run_false c.args.around.now c.args.e.now _ c.in-False.is

pub eval-returns-in-Null-clause-ends : goal.eval-returns-in-Null-clause-ends
eval-returns-in-Null-clause-ends g t c = run_null c.args.around.now c.args.e.now _ c.in-Null.is

pub eval-returns-in-Group-clause-ends : goal.eval-returns-in-Group-clause-ends
eval-returns-in-Group-clause-ends g t c = same_end _ _ _ _ (run_group c.args.around.now c.args.e.now _ _ _ c.in-Group.is c.get.ensures) c.eval.ensures.ends

pub eval-returns-in-Field-clause-ends : goal.eval-returns-in-Field-clause-ends
eval-returns-in-Field-clause-ends g t c =
    same_end _ _ _ _ (run_field c.args.around.now c.args.e.now _ _ _ _ c.in-Field.is c.get-in-Field.ensures ∙ ap (λ (n : Named). then_run ((says c.args.around.now c.get-in-Field.result.now).run (frame c.args.slots.now c.args.m.now)) (member_value n)) (sym c.named_at.ensures)) c.field.ensures.ends

pub eval-returns-in-Index-clause-ends : goal.eval-returns-in-Index-clause-ends
eval-returns-in-Index-clause-ends g t c =
    same_end _ _ _ _ (run_index c.args.around.now c.args.e.now _ _ _ _ _ c.in-Index.is c.get-in-Index.ensures c.get-in-Index-2.ensures) c.element.ensures.ends

pub eval-returns-in-NewArray-clause-ends : goal.eval-returns-in-NewArray-clause-ends
eval-returns-in-NewArray-clause-ends g t c =
    same_end _ _ _ _ (run_new_array c.args.around.now c.args.e.now _ _ _ _ c.in-NewArray.is c.get-in-NewArray.ensures) c.array.ensures.ends

pub eval-returns-in-Prefix-clause-ends : goal.eval-returns-in-Prefix-clause-ends
eval-returns-in-Prefix-clause-ends g t c =
    same_end _ _ _ _ (run_prefix c.args.around.now c.args.e.now _ _ _ _ c.in-Prefix.is c.get-in-Prefix.ensures) c.prefix.ensures.ends

pub eval-returns-in-Binary-clause-ends : goal.eval-returns-in-Binary-clause-ends
eval-returns-in-Binary-clause-ends g t c =
    same_end _ _ _ _ (run_binary c.args.around.now c.args.e.now _ _ _ _ _ _ _ c.in-Binary.is c.get-in-Binary.ensures c.get-in-Binary-2.ensures) c.binary.ensures.ends

pub fitted-returns-clause-ends : goal.fitted-returns-clause-ends
fitted-returns-clause-ends g t c =
    gives_then _ _ _ _ c.in_ok-value.ensures.ends
    ∙ ap (λ (a : Applied). came_to a (frame c.args.slots.now c.eval.new.m)) (ap (λ (t : Ty). widened t c.args.to c.in_ok-value.value) (type_says c.args.around.now c.args.e.now ∙ sym c.type_at.ensures) ∙ c.widened.ensures)

pub prefix-returns-clause-ends : goal.prefix-returns-clause-ends
prefix-returns-clause-ends g t c =
    let s : Here = frame c.args.slots.now c.eval.new.m in
    same_end _ _ _ _
    (gives_then _ _ _ _ c.in_ok-value.ensures.ends
    ∙ ap (λ (o : Option Op). came_to (prefixed o c.in_ok-value.value) s) (ap (prefix_of c.args.sign) (type_says c.args.around.now c.args.value.now ∙ sym c.type_at.ensures) ∙ sym c.prefix_of-op.ensures))
    (ends_came s _ _ c.prefixed.ensures)

pub eval-returns-in-Name-clause-ends : goal.eval-returns-in-Name-clause-ends
eval-returns-in-Name-clause-ends g t c = same_end _ _ _ _ (run_name c.args.around.now c.args.e.now _ _ c.in-Name.is) c.name_value.ensures

pub eval-returns-in-Str-clause-ends : goal.eval-returns-in-Str-clause-ends
eval-returns-in-Str-clause-ends g t c =
    let s : Here = frame c.args.slots.now c.args.m.now in
    same_end _ _ _ _ (run_text c.args.around.now c.args.e.now _ _ c.in-Str.is ∙ ap (λ (b : List ℕ). Gives (Text b) s) (sym c.as_slice-in-Str.ensures)) (ends_came s _ _ c.text.ensures)

pub eval-returns-in-This-clause-ends : goal.eval-returns-in-This-clause-ends
eval-returns-in-This-clause-ends g t c = same_end _ _ _ _ (run_this c.args.around.now c.args.e.now _ c.in-This.is) c.this_value.ensures

pub eval-returns-in-NewObject-clause-ends : goal.eval-returns-in-NewObject-clause-ends
eval-returns-in-NewObject-clause-ends g t c = same_end _ _ _ _ (run_new_object c.args.around.now c.args.e.now _ _ c.in-NewObject.is) c.made_object.ensures.ends

pub eval-returns-in-Call-clause-ends : goal.eval-returns-in-Call-clause-ends
eval-returns-in-Call-clause-ends g t c = same_end _ _ _ _ (run_call c.args.around.now c.args.e.now _ _ _ _ c.in-Call.is) c.call.ensures.ends

pub binary-returns-clause-ends : goal.binary-returns-clause-ends
binary-returns-clause-ends g t c =
    let a = c.args.around.now in
    let near : Here = frame c.args.slots.now c.eval.new.m in
    same_end _ _ _ _
    (gives_then _ _ _ _ c.in_ok-a.ensures.ends ∙ ap (λ (t : Ty). (if decides c.args.sign c.in_ok-a.a then pure c.in_ok-a.a else ((says a c.args.right.now).run >>= (λ w. came_to (combined c.args.sign t (says a c.args.right.now).ty c.in_ok-a.a w)))) near) (type_says a c.args.left.now))
    c.with_left.ensures.ends

pub with_left-returns-in_err-b-clause-ends : goal.with_left-returns-in_err-b-clause-ends
with_left-returns-in_err-b-clause-ends g t c =
    let near : Here = frame c.args.slots.now c.args.m.now in
    exits _ _ _ _ _ _ c.from_residual.ensures.1 c.in_err-b.ensures.ends
    (ap (λ (d : Bool). (if d then pure c.args.a else operand_value c.args.around.now c.args.sign c.args.left c.args.right.now c.args.a) near) (sym c.decides.ensures ∙ c.if-decides.false))

pub with_left-returns-clause-ends : goal.with_left-returns-clause-ends
with_left-returns-clause-ends g t c =
    let r = says c.args.around.now c.args.right.now in
    let near : Here = frame c.args.slots.now c.args.m.now in
    let far : Here = frame c.args.slots.now c.eval.new.m in
    same_end _ _ _ _
    (ap (λ (d : Bool). (if d then pure c.args.a else operand_value c.args.around.now c.args.sign c.args.left c.args.right.now c.args.a) near) (sym c.decides.ensures ∙ c.if-decides.false)
    ∙ gives_then _ _ _ _ c.in_ok-b.ensures.ends
    ∙ ap (λ (t : Ty). came_to (combined c.args.sign (type_at c.args.around.now.facts.now c.args.left) t c.args.a c.in_ok-b.b) far) (type_says c.args.around.now c.args.right.now))
    (ends_came far _ _ c.joined.ensures)
