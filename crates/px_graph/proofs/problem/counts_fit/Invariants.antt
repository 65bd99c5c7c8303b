use Rattle.std.proofs.Common.{◌≡◌, ◌+◌, ◌<◌, ◌^◌, drop}
use Rattle.px_graph.specs.Loads.{total}
use Rattle.px_graph.proofs.problem.counts_fit.Given as goal

abbrev pub invariant-loop-count : goal.invariant-loop-count
invariant-loop-count l = record {
  sum : l.sum + total (drop l.count-index l.counts) ≡ total l.counts;
  below : l.sum < 2 ^ 64;
}
