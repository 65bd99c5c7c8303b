use Rattle.std.proofs.Common.{◌≡◌, [], drop}
use Rattle.px_flow_points.specs.Order.{put_all}
use Rattle.px_depend.specs.Order.{edge_cmp}
use Rattle.px_depend.proofs.edges.set_of.Given as goal

abbrev pub invariant-loop-edge : goal.invariant-loop-edge
invariant-loop-edge l = put_all edge_cmp l.set.keys (drop l.edge-index l.edges) ≡ put_all edge_cmp [] l.edges
