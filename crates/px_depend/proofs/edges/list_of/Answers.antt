use Rattle.std.proofs.Common.{◌≡◌, List, subst, sym, rules}
use Rattle.std.specs.List.Sorted.{IsStrictlySortedBy}
use Rattle.px_depend.specs.declared.edge.Edge.{Edge}
use Rattle.px_depend.specs.contracts.edge.EdgeOrd.TheImpl.{cmp-value}
use Rattle.px_depend.specs.Order.{edge_cmp}
use Rattle.px_depend.proofs.EdgeOrder.{derived}
use Rattle.px_flow_points.proofs.Inserting.{sorted_alike}
use Rattle.px_depend.proofs.edges.list_of.Goals as goal

pub returns-clause-rise : goal.returns-clause-rise
returns-clause-rise c =
    let same : c.loop-edge.list.items ≡ c.args.set.keys = search rules in
    subst (λ (z : List Edge). IsStrictlySortedBy edge_cmp z) (sym same) (sorted_alike cmp-value.it edge_cmp derived c.args.set.keys c.into_iter-edge-iterator.ensures.into_iter_gives.4)
