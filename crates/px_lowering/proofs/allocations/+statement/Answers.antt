use Rattle.px_lowering.proofs.AllocationForms.{found_empty, found_assign, found_up, found_down, found_if, found_while, found_for}
use Rattle.px_lowering.proofs.Found.{none_found, then_one, then_two, then_three}
use Rattle.px_lowering.proofs.allocations.+statement.Goals as goal

pub in_statement-returns-in_ok-in_expression-in-Assign : goal.in_statement-returns-in_ok-in_expression-in-Assign
in_statement-returns-in_ok-in_expression-in-Assign t c = then_one _ _ _ _ _ _ _ c.in_ok-in_expression-in-Assign.ensures (found_assign c.args.checked.now.facts c.args.method c.args.s.now _ _ c.in-Assign.is) c.in_expression-in-Assign-2.ensures

pub in_statement-returns-in_ok-in_statement-in-If : goal.in_statement-returns-in_ok-in_statement-in-If
in_statement-returns-in_ok-in_statement-in-If t c = then_two _ _ _ _ _ _ _ _ _ c.in_ok-in_expression-in-If.ensures c.in_ok-in_statement-in-If.ensures (found_if c.args.checked.now.facts c.args.method c.args.s.now _ _ _ _ c.in-If.is c.get.ensures) c.in_other.ensures

pub in_statement-returns-in_ok-in_expression-in-While : goal.in_statement-returns-in_ok-in_expression-in-While
in_statement-returns-in_ok-in_expression-in-While t c = then_one _ _ _ _ _ _ _ c.in_ok-in_expression-in-While.ensures (found_while c.args.checked.now.facts c.args.method c.args.s.now _ _ _ c.in-While.is c.get-in-While.ensures) c.in_statement-in-While.ensures

pub in_statement-returns-in_ok-in_statement-in-For-2 : goal.in_statement-returns-in_ok-in_statement-in-For-2
in_statement-returns-in_ok-in_statement-in-For-2 t c = then_three _ _ _ _ _ _ _ _ _ _ _ c.in_ok-in_statement-in-For.ensures c.in_ok-in_expression-in-For.ensures c.in_ok-in_statement-in-For-2.ensures (found_for c.args.checked.now.facts c.args.method c.args.s.now _ _ _ _ _ _ _ c.in-For.is c.get-in-For.ensures c.get-in-For-2.ensures c.get-in-For-3.ensures) c.in_statement-in-For-3.ensures

pub in_statement-returns-in-Empty : goal.in_statement-returns-in-Empty
in_statement-returns-in-Empty t c = none_found _ _ (found_empty c.args.checked.now.facts c.args.method c.args.s.now c.in-Empty.is)

pub in_statement-returns-in-Up : goal.in_statement-returns-in-Up
in_statement-returns-in-Up t c = none_found _ _ (found_up c.args.checked.now.facts c.args.method c.args.s.now _ c.in-Up.is)

pub in_statement-returns-in-Down : goal.in_statement-returns-in-Down
in_statement-returns-in-Down t c = none_found _ _ (found_down c.args.checked.now.facts c.args.method c.args.s.now _ c.in-Down.is)
