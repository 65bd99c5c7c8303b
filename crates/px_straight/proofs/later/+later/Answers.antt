use Rattle.std.proofs.Common.{Some, None, sym, ap, ◌∙◌}
use Rattle.px_straight.specs.Taken.{later_among}
use Rattle.px_straight.proofs.Forms.{later_taken, later_untaken, later_at}
use Rattle.px_straight.proofs.later.+later.Goals as goal

pub later_in-returns-then-is_taken : goal.later_in-returns-then-is_taken
later_in-returns-then-is_taken t c = sym (later_taken c.args.code.now c.args.tree.now _ _ c.in-Do.is (sym c.is_taken.ensures ∙ c.if-is_taken.true))

pub later_in-returns-else-is_taken : goal.later_in-returns-else-is_taken
later_in-returns-else-is_taken t c = ap Some c.line_of.ensures ∙ sym (later_untaken c.args.code.now c.args.tree.now _ _ c.in-Do.is (sym c.is_taken.ensures ∙ c.if-is_taken.false))

pub later_in-returns-in-None : goal.later_in-returns-in-None
later_in-returns-in-None t c = ap Some c.line_of-in-None.ensures ∙ sym (later_at c.args.code.now c.args.tree.now _ _ _ _ None c.in-Loop.is (sym (ap (later_among c.args.code.now) c.as_slice.ensures) ∙ sym c.later_among.ensures ∙ c.in-None.is))

pub later_in-returns-in-Some : goal.later_in-returns-in-Some
later_in-returns-in-Some t c = sym (later_at c.args.code.now c.args.tree.now _ _ _ _ (Some c.in-Some.line) c.in-Loop.is (sym (ap (later_among c.args.code.now) c.as_slice.ensures) ∙ sym c.later_among.ensures ∙ c.in-Some.is))
