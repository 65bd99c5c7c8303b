use Rattle.std.proofs.Common.{◌≡◌, ◌+◌, drop}
use Rattle.px_graph.specs.Loads.{load_from}
use Rattle.px_graph.proofs.loads.load_of.Given as goal

abbrev pub invariant-loop-count : goal.invariant-loop-count
invariant-loop-count l = record {
  number : l.node ≡ l.count-index + 1;
  sum : l.sum + load_from l.node (drop l.count-index l.counts) l.sides ≡ load_from 1 l.counts l.sides;
}
