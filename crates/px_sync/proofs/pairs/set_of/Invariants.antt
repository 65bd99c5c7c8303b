use Rattle.std.proofs.Common.{◌≡◌, ◌||◌, drop}
use Rattle.std.specs.HashSet.{contains_by}
use Rattle.px_flow_points.specs.declared.part.Pair.{Pair}
use Rattle.px_sync.specs.Found.{same_pair, has}
use Rattle.px_sync.proofs.pairs.set_of.Given as goal

abbrev pub invariant-loop-pair : goal.invariant-loop-pair
invariant-loop-pair l = (p : Pair) → (contains_by (same_pair p) l.set || has p (drop l.pair-index l.pairs)) ≡ has p l.pairs
