use Rattle.std.proofs.Common.{List, ◌++◌, map, option_map, sym, ap, ◌∙◌}
use Rattle.px_tree.specs.declared.Expr.{Expr}
use Rattle.px_lowering.specs.Allocations.{all_of, if_any, one_at, in_expression}
use Rattle.px_lowering.proofs.AllocationForms.{found_group, found_field, found_index, found_call, found_new_array, found_prefix, found_binary}
use Rattle.px_lowering.proofs.Found.{then_one, then_two}
use Rattle.px_lowering.proofs.allocations.+expression.Goals as goal

pub in_expression-returns-in-Group : goal.in_expression-returns-in-Group
in_expression-returns-in-Group t c = then_one _ _ _ _ _ _ _ c.in_ok-add.ensures (found_group c.args.checked.now.facts c.args.method c.args.e.now _ _ c.in-Group.is c.get.ensures) c.in_expression.ensures

pub in_expression-returns-in-Field : goal.in_expression-returns-in-Field
in_expression-returns-in-Field t c = then_one _ _ _ _ _ _ _ c.in_ok-add.ensures (found_field c.args.checked.now.facts c.args.method c.args.e.now _ _ _ c.in-Field.is c.get-in-Field.ensures) c.in_expression-in-Field.ensures

pub in_expression-returns-in_ok-in_expression-in-Index : goal.in_expression-returns-in_ok-in_expression-in-Index
in_expression-returns-in_ok-in_expression-in-Index t c = then_two _ _ _ _ _ _ _ _ _ c.in_ok-add.ensures c.in_ok-in_expression-in-Index.ensures (found_index c.args.checked.now.facts c.args.method c.args.e.now _ _ _ _ c.in-Index.is c.get-in-Index.ensures c.get-in-Index-2.ensures) c.in_expression-in-Index-2.ensures

pub in_expression-returns-in_ok-in_receiver-in-Call : goal.in_expression-returns-in_ok-in_receiver-in-Call
in_expression-returns-in_ok-in_receiver-in-Call t c = then_two _ _ _ _ _ _ _ _ _ c.in_ok-add.ensures c.in_ok-in_receiver-in-Call.ensures (found_call c.args.checked.now.facts c.args.method c.args.e.now _ _ _ c.in-Call.is ∙ ap (λ (xs : List Expr). one_at c.args.checked.now.facts c.args.method c.args.e.now.id c.args.e.now.token ++ (if_any (option_map (in_expression c.args.checked.now.facts c.args.method) c.in-Call.of) ++ all_of (map (in_expression c.args.checked.now.facts c.args.method) xs))) (sym c.as_slice.ensures)) c.in_expressions.ensures

pub in_expression-returns-in-NewArray : goal.in_expression-returns-in-NewArray
in_expression-returns-in-NewArray t c = then_one _ _ _ _ _ _ _ c.in_ok-add.ensures (found_new_array c.args.checked.now.facts c.args.method c.args.e.now _ _ _ c.in-NewArray.is c.get-in-NewArray.ensures) c.in_expression-in-NewArray.ensures

pub in_expression-returns-in-Prefix : goal.in_expression-returns-in-Prefix
in_expression-returns-in-Prefix t c = then_one _ _ _ _ _ _ _ c.in_ok-add.ensures (found_prefix c.args.checked.now.facts c.args.method c.args.e.now _ _ _ c.in-Prefix.is c.get-in-Prefix.ensures) c.in_expression-in-Prefix.ensures

pub in_expression-returns-in_ok-in_expression-in-Binary : goal.in_expression-returns-in_ok-in_expression-in-Binary
in_expression-returns-in_ok-in_expression-in-Binary t c = then_two _ _ _ _ _ _ _ _ _ c.in_ok-add.ensures c.in_ok-in_expression-in-Binary.ensures (found_binary c.args.checked.now.facts c.args.method c.args.e.now _ _ _ _ _ _ c.in-Binary.is c.get-in-Binary.ensures c.get-in-Binary-2.ensures) c.in_expression-in-Binary-2.ensures
