use Rattle.std.proofs.Common.{◌≡◌, ◌++◌, map, drop}
use Rattle.px_straight.specs.Simple.{simple_node_of}
use Rattle.px_straight.proofs.types.simple_nodes.Given as goal

abbrev pub invariant-loop-node : goal.invariant-loop-node
invariant-loop-node l = l.all ++ map simple_node_of (drop l.node-index l.fn.nodes) ≡ map simple_node_of l.fn.nodes
