use Rattle.std.proofs.Common.{map, option_map, ap, ◌∙◌, arith}
use Rattle.px_tree.specs.declared.ExprForm.TheVariants.{Group, Field, Index, Call, NewArray, Prefix, Binary}
use Rattle.px_tree.specs.Numbering.{in_order, number_if, numbered_expression, numbered_expression_form}
use Rattle.px_tree.proofs.Sizes.{total, size_of, size_of_form, size_of_its_form, group_size, field_size, index_size, call_size, array_size, prefix_size, binary_size, total_reverse, total_last}
use Rattle.px_tree.proofs.Numbers.{of_number, of_text, of_true, of_false, of_null, of_this, of_name, of_group, of_field, of_index, of_call, of_object, of_array, of_prefix, of_binary, no_part, one_part, two_parts, an_expression, joined_start, joined_turn}
use Rattle.px_tree.proofs.numbering.Numbers.+expression.Goals as goal

pub expressions-loop-e-init : goal.expressions-loop-e-init
expressions-loop-e-init t c =
    record {
      order = joined_start numbered_expression c.args.es c.in_ok-left.left c.new-numbered.result c.args.self.now.next c.in_ok-left.ensures c.new-numbered.ensures;
      small = let e = ap (λ xs. total (map size_of xs)) c.in_ok-left.ensures ∙ total_reverse size_of c.args.es in omega (arith, e);
    }

pub expressions-expression-requires : goal.expressions-expression-requires
expressions-expression-requires t c =
    let last = total_last size_of c.loop-e.left c.pop.new.self c.in-Some.e c.in-Some.ensures in
    (omega (arith, last, c.loop-e.invariant.small, c.decreases), tt)

pub expressions-loop-e-preserved : goal.expressions-loop-e-preserved
expressions-loop-e-preserved t c =
    let last = total_last size_of c.loop-e.left c.pop.new.self c.in-Some.e c.in-Some.ensures in
    record {
      order = c.loop-e.invariant.order
          ∙ joined_turn numbered_expression c.loop-e.left c.pop.new.self c.loop-e.numbered c.push.new.self c.in-Some.e c.in_ok-expression.field-0 c.loop-e.self.next c.expression.new.self.next c.in-Some.ensures c.in_ok-expression.ensures c.in_ok-push.ensures.ok;
      small = omega (arith, last, c.loop-e.invariant.small);
    }

pub expression-expression_form-requires : goal.expression-expression_form-requires
expression-expression_form-requires t c = let e = size_of_its_form c.args.e in (omega (arith, e, c.decreases), tt)

pub expression-returns : goal.expression-returns
expression-returns t c = an_expression c.args.e _ _ _ _ _ c.in_ok-id.ensures.number c.in_ok-id.ensures.next c.in_ok-form.ensures

pub expression_form-returns-in-Number : goal.expression_form-returns-in-Number
expression_form-returns-in-Number t c = no_part (numbered_expression_form c.args.form) _ c.args.self.now.next (ap numbered_expression_form c.in-Number.is ∙ of_number c.in-Number.digits c.in-Number.long)

pub expression_form-returns-in-Str : goal.expression_form-returns-in-Str
expression_form-returns-in-Str t c = no_part (numbered_expression_form c.args.form) _ c.args.self.now.next (ap numbered_expression_form c.in-Str.is ∙ of_text c.in-Str.bytes)

pub expression_form-returns-in-True : goal.expression_form-returns-in-True
expression_form-returns-in-True t c = no_part (numbered_expression_form c.args.form) _ c.args.self.now.next (ap numbered_expression_form c.in-True.is ∙ of_true)

pub expression_form-returns-in-False : goal.expression_form-returns-in-False
expression_form-returns-in-False t c = no_part (numbered_expression_form c.args.form) _ c.args.self.now.next (ap numbered_expression_form c.in-False.is ∙ of_false)

pub expression_form-returns-in-Null : goal.expression_form-returns-in-Null
expression_form-returns-in-Null t c = no_part (numbered_expression_form c.args.form) _ c.args.self.now.next (ap numbered_expression_form c.in-Null.is ∙ of_null)

pub expression_form-returns-in-This : goal.expression_form-returns-in-This
expression_form-returns-in-This t c = no_part (numbered_expression_form c.args.form) _ c.args.self.now.next (ap numbered_expression_form c.in-This.is ∙ of_this)

pub expression_form-returns-in-Name : goal.expression_form-returns-in-Name
expression_form-returns-in-Name t c = no_part (numbered_expression_form c.args.form) _ c.args.self.now.next (ap numbered_expression_form c.in-Name.is ∙ of_name c.in-Name.name)

pub expression_form-returns-in-NewObject : goal.expression_form-returns-in-NewObject
expression_form-returns-in-NewObject t c = no_part (numbered_expression_form c.args.form) _ c.args.self.now.next (ap numbered_expression_form c.in-NewObject.is ∙ of_object c.in-NewObject.name)

pub expression_form-returns-in_ok-inner-in-Group : goal.expression_form-returns-in_ok-inner-in-Group
expression_form-returns-in_ok-inner-in-Group t c =
    one_part (numbered_expression_form c.args.form) (numbered_expression c.in-Group.inner) (λ x. Group x) c.args.self.now.next _ _ (ap numbered_expression_form c.in-Group.is ∙ of_group c.in-Group.inner) c.in_ok-inner-in-Group.ensures

pub expression_form-boxed-requires : goal.expression_form-boxed-requires
expression_form-boxed-requires t c = let e = ap size_of_form c.in-Group.is ∙ group_size c.in-Group.inner in (omega (arith, e, c.decreases), tt)

pub expression_form-returns-in_ok-of-in-Field : goal.expression_form-returns-in_ok-of-in-Field
expression_form-returns-in_ok-of-in-Field t c =
    one_part (numbered_expression_form c.args.form) (numbered_expression c.in-Field.of) (λ x. Field x c.in-Field.name) c.args.self.now.next _ _ (ap numbered_expression_form c.in-Field.is ∙ of_field c.in-Field.of c.in-Field.name) c.in_ok-of-in-Field.ensures

pub expression_form-boxed-requires-in-Field : goal.expression_form-boxed-requires-in-Field
expression_form-boxed-requires-in-Field t c = let e = ap size_of_form c.in-Field.is ∙ field_size c.in-Field.of c.in-Field.name in (omega (arith, e, c.decreases), tt)

pub expression_form-returns-in_ok-index-in-Index : goal.expression_form-returns-in_ok-index-in-Index
expression_form-returns-in_ok-index-in-Index t c =
    two_parts (numbered_expression_form c.args.form) (numbered_expression c.in-Index.of) (numbered_expression c.in-Index.index) (λ x y. Index x y) c.args.self.now.next _ _ _ _ (ap numbered_expression_form c.in-Index.is ∙ of_index c.in-Index.of c.in-Index.index) c.in_ok-of-in-Index.ensures c.in_ok-index-in-Index.ensures

pub expression_form-boxed-requires-in-Index : goal.expression_form-boxed-requires-in-Index
expression_form-boxed-requires-in-Index t c = let e = ap size_of_form c.in-Index.is ∙ index_size c.in-Index.of c.in-Index.index in (omega (arith, e, c.decreases), tt)

pub expression_form-boxed-requires-in-Index-2 : goal.expression_form-boxed-requires-in-Index-2
expression_form-boxed-requires-in-Index-2 t c = let e = ap size_of_form c.in-Index.is ∙ index_size c.in-Index.of c.in-Index.index in (omega (arith, e, c.decreases), tt)

pub expression_form-returns-in_ok-args-in-Call : goal.expression_form-returns-in_ok-args-in-Call
expression_form-returns-in_ok-args-in-Call t c =
    two_parts (numbered_expression_form c.args.form) (number_if (option_map numbered_expression c.in-Call.of)) (in_order (map numbered_expression c.in-Call.args)) (λ x y. Call x c.in-Call.name y) c.args.self.now.next _ _ _ _ (ap numbered_expression_form c.in-Call.is ∙ of_call c.in-Call.of c.in-Call.name c.in-Call.args) c.in_ok-of-in-Call.ensures c.in_ok-args-in-Call.ensures

pub expression_form-receiver-requires : goal.expression_form-receiver-requires
expression_form-receiver-requires t c = let e = ap size_of_form c.in-Call.is ∙ call_size c.in-Call.of c.in-Call.name c.in-Call.args in (omega (arith, e, c.decreases), tt)

pub expression_form-expressions-requires : goal.expression_form-expressions-requires
expression_form-expressions-requires t c = let e = ap size_of_form c.in-Call.is ∙ call_size c.in-Call.of c.in-Call.name c.in-Call.args in (omega (arith, e, c.decreases), tt)

pub expression_form-returns-in_ok-length-in-NewArray : goal.expression_form-returns-in_ok-length-in-NewArray
expression_form-returns-in_ok-length-in-NewArray t c =
    one_part (numbered_expression_form c.args.form) (numbered_expression c.in-NewArray.length) (λ x. NewArray c.in-NewArray.base x) c.args.self.now.next _ _ (ap numbered_expression_form c.in-NewArray.is ∙ of_array c.in-NewArray.base c.in-NewArray.length) c.in_ok-length-in-NewArray.ensures

pub expression_form-boxed-requires-in-NewArray : goal.expression_form-boxed-requires-in-NewArray
expression_form-boxed-requires-in-NewArray t c = let e = ap size_of_form c.in-NewArray.is ∙ array_size c.in-NewArray.base c.in-NewArray.length in (omega (arith, e, c.decreases), tt)

pub expression_form-returns-in_ok-value-in-Prefix : goal.expression_form-returns-in_ok-value-in-Prefix
expression_form-returns-in_ok-value-in-Prefix t c =
    one_part (numbered_expression_form c.args.form) (numbered_expression c.in-Prefix.value) (λ x. Prefix c.in-Prefix.sign x) c.args.self.now.next _ _ (ap numbered_expression_form c.in-Prefix.is ∙ of_prefix c.in-Prefix.sign c.in-Prefix.value) c.in_ok-value-in-Prefix.ensures

pub expression_form-boxed-requires-in-Prefix : goal.expression_form-boxed-requires-in-Prefix
expression_form-boxed-requires-in-Prefix t c = let e = ap size_of_form c.in-Prefix.is ∙ prefix_size c.in-Prefix.sign c.in-Prefix.value in (omega (arith, e, c.decreases), tt)

pub expression_form-returns-in_ok-right-in-Binary : goal.expression_form-returns-in_ok-right-in-Binary
expression_form-returns-in_ok-right-in-Binary t c =
    two_parts (numbered_expression_form c.args.form) (numbered_expression c.in-Binary.left) (numbered_expression c.in-Binary.right) (λ x y. Binary c.in-Binary.sign c.in-Binary.sign_token x y) c.args.self.now.next _ _ _ _ (ap numbered_expression_form c.in-Binary.is ∙ of_binary c.in-Binary.sign c.in-Binary.sign_token c.in-Binary.left c.in-Binary.right) c.in_ok-left-in-Binary.ensures c.in_ok-right-in-Binary.ensures

pub expression_form-boxed-requires-in-Binary : goal.expression_form-boxed-requires-in-Binary
expression_form-boxed-requires-in-Binary t c = let e = ap size_of_form c.in-Binary.is ∙ binary_size c.in-Binary.sign c.in-Binary.sign_token c.in-Binary.left c.in-Binary.right in (omega (arith, e, c.decreases), tt)

pub expression_form-boxed-requires-in-Binary-2 : goal.expression_form-boxed-requires-in-Binary-2
expression_form-boxed-requires-in-Binary-2 t c = let e = ap size_of_form c.in-Binary.is ∙ binary_size c.in-Binary.sign c.in-Binary.sign_token c.in-Binary.left c.in-Binary.right in (omega (arith, e, c.decreases), tt)
