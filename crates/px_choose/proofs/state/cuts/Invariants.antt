use Rattle.std.proofs.Common.{◌≡◌, map, take}
use Rattle.px_graph.specs.Costs.{cost_of}
use Rattle.px_choose.proofs.state.cuts.Given as goal

abbrev pub invariant-loop-list : goal.invariant-loop-list
invariant-loop-list l = l.sums.items ≡ map (λ es. cost_of es l.sides) (take l.list-index l.lists)
