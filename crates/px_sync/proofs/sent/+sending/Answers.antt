use Rattle.px_sync.proofs.SentWalk.{is_do, is_if, is_loop, two_parts}
use Rattle.px_sync.specs.Found.{placing}
use Rattle.px_sync.proofs.sent.+sending.Goals as goal

pub tree-returns-in-Do : goal.tree-returns-in-Do
tree-returns-in-Do t c = rw (is_do (placing c.args.code.now c.args.sides.now c.args.kept.now c.args.points.now) c.args.tree_of.now c.in-Do.node c.in-Do.word_of c.in-Do.is) c.word.ensures

pub tree-returns-in_ok-trees-in-If : goal.tree-returns-in_ok-trees-in-If
tree-returns-in_ok-trees-in-If t c = two_parts c.trees-in-If.result c.args.into.now.items c.trees.new.into.items c.trees-in-If.new.into.items _ _ _ c.in_ok-trees-in-If.ensures (is_if (placing c.args.code.now c.args.sides.now c.args.kept.now c.args.points.now) c.args.tree_of.now c.in-If.node c.in-If.test c.in-If.yes c.in-If.no c.as_slice.result.now c.as_slice-in-If.result.now c.in-If.is c.as_slice.ensures c.as_slice-in-If.ensures) c.trees-in-If.ensures

pub tree-returns-in_ok-trees-in-Loop : goal.tree-returns-in_ok-trees-in-Loop
tree-returns-in_ok-trees-in-Loop t c = two_parts c.trees-in-Loop-2.result c.args.into.now.items c.trees-in-Loop.new.into.items c.trees-in-Loop-2.new.into.items _ _ _ c.in_ok-trees-in-Loop.ensures (is_loop (placing c.args.code.now c.args.sides.now c.args.kept.now c.args.points.now) c.args.tree_of.now c.in-Loop.first c.in-Loop.node c.in-Loop.test c.in-Loop.body c.as_slice-in-Loop.result.now c.as_slice-in-Loop-2.result.now c.in-Loop.is c.as_slice-in-Loop.ensures c.as_slice-in-Loop-2.ensures) c.trees-in-Loop-2.ensures
