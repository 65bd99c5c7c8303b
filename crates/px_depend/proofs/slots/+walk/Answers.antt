use Rattle.std.proofs.Common.{length, refl, arith}
use Rattle.std.proofs.lemmas.Option.{slice_get_read}
use Rattle.px_depend.specs.Summaries.{shapes, flows_in}
use Rattle.px_depend.proofs.Steps.{test_flow, test_sum}
use Rattle.px_depend.proofs.Branching.{do_sum, do_met, if_sum, if_met, loop_sum, loop_met}
use Rattle.px_depend.proofs.Crossing.{trees_sum, trees_met}
use Rattle.px_depend.proofs.Loops.{next_sums, next_within, done_sums, done_within}
use Rattle.px_depend.proofs.slots.+walk.Goals as goal

pub tree-returns-in_ok-one-in-Do-clause-sum : goal.tree-returns-in_ok-one-in-Do-clause-sum
tree-returns-in_ok-one-in-Do-clause-sum t c = do_sum c.in_ok-one-in-Do.one c.args.tree_of.now c.in-Do.node c.in-Do.word c.in-Do.is c.in_ok-one-in-Do.ensures

pub tree-returns-in_ok-one-in-Do-clause-met : goal.tree-returns-in_ok-one-in-Do-clause-met
tree-returns-in_ok-one-in-Do-clause-met t c = do_met c.args.types.now c.args.tree_of.now c.in-Do.node c.in-Do.word c.args.into.now.items c.in-Do.is

pub tree-returns-in_ok-whole-in-If-clause-sum : goal.tree-returns-in_ok-whole-in-If-clause-sum
tree-returns-in_ok-whole-in-If-clause-sum t c = if_sum c.in_ok-whole-in-If.whole c.args.tree_of.now c.in-If.node c.in-If.test c.in-If.yes c.in-If.no c.as_slice.result.now c.as_slice-in-If.result.now c.in-If.is c.as_slice.ensures c.as_slice-in-If.ensures
    (c.in_ok-whole-in-If.ensures.sum (test_flow c.in-If.node c.in-If.test) (shapes c.as_slice.result.now) (shapes c.as_slice-in-If.result.now) (test_sum c.in_ok-test-in-If.test c.in-If.node c.in-If.test c.in_ok-test-in-If.ensures) c.in_ok-yes-in-If.ensures.sum c.in_ok-no-in-If.ensures.sum)

pub tree-returns-in_ok-whole-in-If-clause-met : goal.tree-returns-in_ok-whole-in-If-clause-met
tree-returns-in_ok-whole-in-If-clause-met t c = if_met c.args.types.now c.args.tree_of.now c.in-If.node c.in-If.test c.in-If.yes c.in-If.no c.as_slice.result.now c.as_slice-in-If.result.now c.args.into.now.items c.trees.new.into.items c.trees-in-If.new.into.items c.branches.new.into.items c.in-If.is c.as_slice.ensures c.as_slice-in-If.ensures c.in_ok-yes-in-If.ensures.met c.in_ok-no-in-If.ensures.met
    (c.in_ok-whole-in-If.ensures.over (test_flow c.in-If.node c.in-If.test) (shapes c.as_slice.result.now) (shapes c.as_slice-in-If.result.now) (test_sum c.in_ok-test-in-If.test c.in-If.node c.in-If.test c.in_ok-test-in-If.ensures) c.in_ok-yes-in-If.ensures.sum c.in_ok-no-in-If.ensures.sum)

pub tree-returns-in_ok-whole-in-Loop-clause-sum : goal.tree-returns-in_ok-whole-in-Loop-clause-sum
tree-returns-in_ok-whole-in-Loop-clause-sum t c = loop_sum c.in_ok-whole-in-Loop.whole c.args.tree_of.now c.in-Loop.first c.in-Loop.node c.in-Loop.test c.in-Loop.body c.as_slice-in-Loop.result.now c.as_slice-in-Loop-2.result.now c.in-Loop.is c.as_slice-in-Loop.ensures c.as_slice-in-Loop-2.ensures
    (c.in_ok-whole-in-Loop.ensures.sum (shapes c.as_slice-in-Loop.result.now) (test_flow c.in-Loop.node c.in-Loop.test) (shapes c.as_slice-in-Loop-2.result.now) c.in_ok-first-in-Loop.ensures.sum (test_sum c.in_ok-test-in-Loop.test c.in-Loop.node c.in-Loop.test c.in_ok-test-in-Loop.ensures) c.in_ok-body-in-Loop.ensures.sum)

pub tree-returns-in_ok-whole-in-Loop-clause-met : goal.tree-returns-in_ok-whole-in-Loop-clause-met
tree-returns-in_ok-whole-in-Loop-clause-met t c = loop_met c.args.types.now c.args.tree_of.now c.in-Loop.first c.in-Loop.node c.in-Loop.test c.in-Loop.body c.as_slice-in-Loop.result.now c.as_slice-in-Loop-2.result.now c.args.into.now.items c.trees-in-Loop.new.into.items c.trees-in-Loop-2.new.into.items c.turns.new.into.items c.in-Loop.is c.as_slice-in-Loop.ensures c.as_slice-in-Loop-2.ensures c.in_ok-first-in-Loop.ensures.met c.in_ok-body-in-Loop.ensures.met
    (c.in_ok-whole-in-Loop.ensures.over (shapes c.as_slice-in-Loop.result.now) (test_flow c.in-Loop.node c.in-Loop.test) (shapes c.as_slice-in-Loop-2.result.now) c.in_ok-first-in-Loop.ensures.sum (test_sum c.in_ok-test-in-Loop.test c.in-Loop.node c.in-Loop.test c.in_ok-test-in-Loop.ensures) c.in_ok-body-in-Loop.ensures.sum)

pub trees-loop-item-preserved : goal.trees-loop-item-preserved
trees-loop-item-preserved t c = record {
  sums = next_sums c.args.list.now c.loop-item.item-index c.item-item.result c.loop-item.all.items c.push.new.self.items c.in_ok-one.one (slice_get_read c.args.list.now (length c.args.list.now) c.loop-item.item-index c.item-item.result refl (omega arith) c.item-item.is) c.in_ok-one.ensures.sum c.in_ok-push.ensures.items c.loop-item.invariant.sums;
  within = next_within c.args.types.now c.args.list.now c.loop-item.item-index c.item-item.result c.args.into.now.items c.loop-item.into.items c.tree.new.into.items (slice_get_read c.args.list.now (length c.args.list.now) c.loop-item.item-index c.item-item.result refl (omega arith) c.item-item.is) c.in_ok-one.ensures.met c.loop-item.invariant.within;
}

pub trees-returns-clause-sum : goal.trees-returns-clause-sum
trees-returns-clause-sum t c = trees_sum c.args.list.now c.in_ok-whole.whole (c.in_ok-whole.ensures.sum (flows_in c.args.list.now) (done_sums c.args.list.now c.loop-item.item-index c.loop-item.all.items c.as_slice.result.now (omega arith) c.as_slice.ensures.value c.loop-item.invariant.sums))

pub trees-returns-clause-met : goal.trees-returns-clause-met
trees-returns-clause-met t c = trees_met c.args.types.now c.args.list.now c.args.into.now.items c.loop-item.into.items c.join.new.into.items (done_within c.args.types.now c.args.list.now c.loop-item.item-index c.args.into.now.items c.loop-item.into.items (omega arith) c.loop-item.invariant.within) (c.in_ok-whole.ensures.over (flows_in c.args.list.now) (done_sums c.args.list.now c.loop-item.item-index c.loop-item.all.items c.as_slice.result.now (omega arith) c.as_slice.ensures.value c.loop-item.invariant.sums))
