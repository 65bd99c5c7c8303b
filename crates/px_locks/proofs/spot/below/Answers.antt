use Rattle.std.proofs.Common.{ltb, rules}
use Rattle.std.proofs.lemmas.Bool.{ltb-true, ltb-false}
use Rattle.std.proofs.lemmas.List.Sorted.{IsPartitionPoint-from_clause, IsPartitionedBy-ltb}
use Rattle.px_locks.specs.Spots.{spot_of, IsInOrder}
use Rattle.px_locks.proofs.spot.below.Goals as goal

pub returns-clause-point : goal.returns-clause-point
unfolding IsInOrder
returns-clause-point c =
    let parted = IsPartitionedBy-ltb spot_of c.args.grants.now c.args.spot c.requires.sorted in
    let point = IsPartitionPoint-from_clause (λ g. ltb (spot_of g) c.args.spot) _ _ c.partition_point.ensures.partitioned parted (λ a r q k. search rules) in
    (λ k d l h. ltb-true _ _ (point.0 k d l h), λ k d l h. ltb-false _ _ (point.1 k d l h))
