use Rattle.std.proofs.Common.{◌≡◌, ◌≤◌, ◌*◌, ◌^◌, ◌++◌, drop, map}
use Rattle.px_graph.specs.Costs.{whole}
use Rattle.px_partition.specs.Weights.{weighed, AreSmall}
use Rattle.px_partition.proofs.edges.edges.Given as goal

abbrev pub invariant-loop-dependence : goal.invariant-loop-dependence
invariant-loop-dependence l = record {
  same : l.edges ++ map (weighed l.code l.counts l.rates) (drop l.dependence-index l.dependences) ≡ map (weighed l.code l.counts l.rates) l.dependences;
  sum : whole l.edges ≤ l.dependence-index * 2 ^ 52;
  small : AreSmall (drop l.dependence-index l.dependences);
}
