use Rattle.std.proofs.Common.{◌≡◌, ◌+◌, drop}
use Rattle.px_choose.specs.Sums.{free_load_from}
use Rattle.px_choose.proofs.sums.free_load.Given as goal

abbrev pub invariant-loop-count : goal.invariant-loop-count
invariant-loop-count l = record {
  number : l.node ≡ l.count-index + 1;
  sum : l.sum + free_load_from l.node (drop l.count-index l.graph.counts) l.pins l.sides ≡ free_load_from 1 l.graph.counts l.pins l.sides;
}
