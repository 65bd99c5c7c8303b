use Rattle.std.proofs.Common.{List, sym, subst}
use Rattle.px_depend.specs.declared.edge.Edge.{Edge as Dependence}
use Rattle.px_partition.specs.Weights.{AreSmall}
use Rattle.px_partition.proofs.Bytes.{are_small}
use Rattle.px_partition.proofs.partition.graph.Goals as goal

pub edges-requires-clause-small : goal.edges-requires-clause-small
edges-requires-clause-small c = subst (λ (z : List Dependence). AreSmall z) (sym c.as_slice.ensures) (are_small c.args.code.now c.args.dependences.now c.requires.edges)
