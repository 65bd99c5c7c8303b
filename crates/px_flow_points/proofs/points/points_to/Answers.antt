use Rattle.px_flow_points.proofs.ByNode.{by_node}
use Rattle.px_flow_points.proofs.points.points_to.Goals as goal

pub returns-clause-touched : goal.returns-clause-touched
returns-clause-touched c = by_node c.args.code.now c.in_ok-sets.sets c.in_ok-reads.reads c.in_ok-writes.writes c.requires c.in_ok-sets.ensures c.in_ok-reads.ensures c.in_ok-writes.ensures
