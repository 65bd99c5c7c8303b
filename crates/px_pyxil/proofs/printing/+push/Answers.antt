use Rattle.std.proofs.lemmas.Result.{on_ok_weaker}
use Rattle.px_pyxil.proofs.Trees.{do_ends, if_ends, loop_ends}
use Rattle.px_pyxil.proofs.printing.+push.Goals as goal

pub push_tree-returns-in_ok-push_do-in-Do : goal.push_tree-returns-in_ok-push_do-in-Do
push_tree-returns-in_ok-push_do-in-Do t c =
    on_ok_weaker c.push_send.result (do_ends c.args.text.now.items c.args.tree.now _ _ _ c.in-Do.is c.in_ok-push_do-in-Do.ensures) c.push_send.ensures

pub push_tree-returns-in_ok-push_trees-in-If-2 : goal.push_tree-returns-in_ok-push_trees-in-If-2
push_tree-returns-in_ok-push_trees-in-If-2 t c =
    on_ok_weaker c.push_end.result
    (if_ends c.args.text.now.items c.args.tree.now _ _ _ _ _ _ c.in-If.is c.as_slice.ensures c.as_slice-in-If.ensures c.in_ok-push_if-in-If.ensures c.in_ok-push_trees-in-If.ensures c.in_ok-extend_from_slice-in-If.ensures.items c.in_ok-push_trees-in-If-2.ensures)
    c.push_end.ensures

pub push_tree-returns-in_ok-push_trees-in-Loop-2 : goal.push_tree-returns-in_ok-push_trees-in-Loop-2
push_tree-returns-in_ok-push_trees-in-Loop-2 t c =
    on_ok_weaker c.push_end-in-Loop.result
    (loop_ends c.args.text.now.items c.args.tree.now _ _ _ _ _ _ c.in-Loop.is c.as_slice-in-Loop.ensures c.as_slice-in-Loop-2.ensures c.in_ok-extend_from_slice-in-Loop.ensures.items c.in_ok-push_trees-in-Loop.ensures c.in_ok-push_test-in-Loop.ensures c.in_ok-push_trees-in-Loop-2.ensures)
    c.push_end-in-Loop.ensures
