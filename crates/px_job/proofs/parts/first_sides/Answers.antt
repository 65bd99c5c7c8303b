use Rattle.std.proofs.Common.{◌+◌, arith}
use Rattle.px_job.specs.Prints.{is_print}
use Rattle.px_job.specs.Parts.{first_side}
use Rattle.px_job.proofs.NodesMore.{sides_more, item_moves}
use Rattle.px_job.proofs.parts.first_sides.Goals as goal

pub loop-node-preserved : goal.loop-node-preserved
loop-node-preserved c = record {
  counted = omega arith;
  same = item_moves _ _ _ _ _ (first_side (is_print c.args.prints.now (c.loop-node._node-index + 1)) c.args.has_budget) _ c.in_ok-push.ensures.ok (rw (← c.loop-node.invariant.counted) c.side_of.ensures) (sides_more c.args.has_budget c.args.prints.now c.args.nodes.now c.loop-node._node-index (c.loop-node._node-index + 1) (omega arith)) c.loop-node.invariant.same;
}
