use Rattle.std.proofs.Common.{◌≡◌, [], drop}
use Rattle.px_flow_points.specs.Order.{put_all}
use Rattle.px_flow_points.specs.ByNode.{touch_cmp}
use Rattle.px_flow_points.proofs.pairs.set_of.Given as goal

abbrev pub invariant-loop-touch : goal.invariant-loop-touch
invariant-loop-touch l = put_all touch_cmp l.set.keys (drop l.touch-index l.touches) ≡ put_all touch_cmp [] l.touches
