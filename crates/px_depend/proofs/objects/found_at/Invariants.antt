use Rattle.std.proofs.Common.{◌≡◌, ◌++◌, map, drop}
use Rattle.px_depend.specs.Objects.{part_edge}
use Rattle.px_depend.proofs.objects.found_at.Given as goal

abbrev pub invariant-loop-node : goal.invariant-loop-node
invariant-loop-node l = l.into.items ++ map (part_edge l.touch l.home.size) (drop l.node-index l.nodes) ≡ l.fn.into.items ++ map (part_edge l.touch l.home.size) l.nodes
