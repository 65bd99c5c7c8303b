use Rattle.px_job.proofs.PrintsMore.{is_do, is_if, is_loop, two_parts}
use Rattle.px_job.proofs.prints.+prints.Goals as goal

pub push_prints_in-returns-in-Do : goal.push_prints_in-returns-in-Do
push_prints_in-returns-in-Do t c = rw (is_do c.args.tree.now c.in-Do.node c.in-Do.word c.in-Do.is) c.push_if_print.ensures

pub push_prints_in-returns-in_ok-push_prints-in-If : goal.push_prints_in-returns-in_ok-push_prints-in-If
push_prints_in-returns-in_ok-push_prints-in-If t c = two_parts c.push_prints-in-If.result c.args.prints.now c.push_prints.new.prints c.push_prints-in-If.new.prints _ _ _ c.in_ok-push_prints-in-If.ensures (is_if c.args.tree.now c.in-If.node c.in-If.test c.in-If.yes c.in-If.no c.as_slice.result.now c.as_slice-in-If.result.now c.in-If.is c.as_slice.ensures c.as_slice-in-If.ensures) c.push_prints-in-If.ensures

pub push_prints_in-returns-in_ok-push_prints-in-Loop : goal.push_prints_in-returns-in_ok-push_prints-in-Loop
push_prints_in-returns-in_ok-push_prints-in-Loop t c = two_parts c.push_prints-in-Loop-2.result c.args.prints.now c.push_prints-in-Loop.new.prints c.push_prints-in-Loop-2.new.prints _ _ _ c.in_ok-push_prints-in-Loop.ensures (is_loop c.args.tree.now c.in-Loop.first c.in-Loop.node c.in-Loop.test c.in-Loop.body c.as_slice-in-Loop.result.now c.as_slice-in-Loop-2.result.now c.in-Loop.is c.as_slice-in-Loop.ensures c.as_slice-in-Loop-2.ensures) c.push_prints-in-Loop-2.ensures
