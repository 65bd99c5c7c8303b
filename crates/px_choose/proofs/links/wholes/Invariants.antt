use Rattle.std.proofs.Common.{◌≡◌, map, take}
use Rattle.px_graph.specs.Costs.{whole}
use Rattle.px_choose.proofs.links.wholes.Given as goal

abbrev pub invariant-loop-list : goal.invariant-loop-list
invariant-loop-list l = l.sums.items ≡ map whole (take l.list-index l.lists)
