use Rattle.std.proofs.Common.{◌∙◌, get_or, arith}
use Rattle.px_flow_points.proofs.Inserting.{put_more, insert_alike}
use Rattle.px_depend.specs.declared.edge.End.TheVariants as end
use Rattle.px_depend.specs.declared.edge.Tie.TheVariants as tie
use Rattle.px_depend.specs.declared.edge.Edge.{Edge}
use Rattle.px_depend.specs.contracts.edge.EdgeOrd.TheImpl.{cmp-value}
use Rattle.px_depend.specs.Depend.{edge}
use Rattle.px_depend.specs.Order.{edge_cmp}
use Rattle.px_depend.proofs.EdgeOrder.{derived}
use Rattle.px_depend.proofs.edges.set_of.Goals as goal

abbrev none : Edge
none = edge end.App 0 tie.Held 0

pub loop-edge-preserved : goal.loop-edge-preserved
loop-edge-preserved c = put_more edge_cmp c.loop-edge.set.keys c.insert.new.self.keys c.args.edges.now _ c.loop-edge.edge-index none (omega arith) (c.in_ok-insert.ensures.keys ∙ insert_alike cmp-value.it edge_cmp derived c.loop-edge.set.keys (get_or c.args.edges.now c.loop-edge.edge-index none)) c.loop-edge.invariant
