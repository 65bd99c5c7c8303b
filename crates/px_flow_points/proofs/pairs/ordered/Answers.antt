use Rattle.px_flow_points.proofs.Ordered.{are_all}
use Rattle.px_flow_points.proofs.pairs.ordered.Goals as goal

pub returns : goal.returns
returns c = are_all c.args.touches.now c.in_ok-set.set.keys c.in_ok-all.all.items c.in_ok-set.ensures c.in_ok-all.ensures.same c.in_ok-all.ensures.rise
