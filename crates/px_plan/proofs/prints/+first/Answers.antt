use Rattle.std.proofs.Common.{ℕ, Option, refl, sym, ap, ◌∙◌}
use Rattle.px_plan.specs.Prints.{or_else, first_among}
use Rattle.px_plan.proofs.PrintWalk.{is_do, is_if, is_loop}
use Rattle.px_plan.proofs.prints.+first.Goals as goal

pub first_in-returns-in-Do : goal.first_in-returns-in-Do
first_in-returns-in-Do t c = c.print_at.ensures ∙ sym (is_do c.args.sides.now c.args.tree.now c.in-Do.node c.in-Do.word c.in-Do.is)

pub first_in-returns-in-Some : goal.first_in-returns-in-Some
first_in-returns-in-Some t c = ap (λ (z : Option ℕ). or_else z (first_among c.args.sides.now c.in-If.no)) c.in-Some.ensures ∙ sym (is_if c.args.sides.now c.args.tree.now c.in-If.node c.in-If.test c.in-If.yes c.in-If.no c.as_slice.result.now c.in-If.no c.in-If.is c.as_slice.ensures refl)

pub first_in-returns-in-None : goal.first_in-returns-in-None
first_in-returns-in-None t c = c.first_among-in-None.ensures ∙ ap (λ (z : Option ℕ). or_else z (first_among c.args.sides.now c.as_slice-in-None.result.now)) c.in-None.ensures ∙ sym (is_if c.args.sides.now c.args.tree.now c.in-If.node c.in-If.test c.in-If.yes c.in-If.no c.as_slice.result.now c.as_slice-in-None.result.now c.in-If.is c.as_slice.ensures c.as_slice-in-None.ensures)

pub first_in-returns-in-Some-first_among : goal.first_in-returns-in-Some-first_among
first_in-returns-in-Some-first_among t c = ap (λ (z : Option ℕ). or_else z (first_among c.args.sides.now c.in-Loop.body)) c.in-Some-first_among.ensures ∙ sym (is_loop c.args.sides.now c.args.tree.now c.in-Loop.first c.in-Loop.node c.in-Loop.test c.in-Loop.body c.as_slice-in-Loop.result.now c.in-Loop.body c.in-Loop.is c.as_slice-in-Loop.ensures refl)

pub first_in-returns-in-None-first_among : goal.first_in-returns-in-None-first_among
first_in-returns-in-None-first_among t c = c.first_among-in-None-first_among.ensures ∙ ap (λ (z : Option ℕ). or_else z (first_among c.args.sides.now c.as_slice-in-None-first_among.result.now)) c.in-None-first_among.ensures ∙ sym (is_loop c.args.sides.now c.args.tree.now c.in-Loop.first c.in-Loop.node c.in-Loop.test c.in-Loop.body c.as_slice-in-Loop.result.now c.as_slice-in-None-first_among.result.now c.in-Loop.is c.as_slice-in-Loop.ensures c.as_slice-in-None-first_among.ensures)
