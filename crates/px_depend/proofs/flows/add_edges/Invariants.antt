use Rattle.std.proofs.Common.{◌≡◌, ◌++◌, map, drop}
use Rattle.px_depend.specs.Summaries.{slot_edges_to}
use Rattle.px_depend.proofs.flows.add_edges.Given as goal

abbrev pub invariant-loop-node : goal.invariant-loop-node
invariant-loop-node l = l.into.items ++ map (slot_edges_to l.slot l.to l.ty) (drop l.node-index l.nodes) ≡ l.fn.into.items ++ map (slot_edges_to l.slot l.to l.ty) l.nodes
