use Rattle.std.proofs.Common.{◌≡◌, ◌++◌, ℕ, [], drop, nat_eq, unwrap_or}
use Rattle.std.specs.HashMap.{get}
use Rattle.px_flow_points.specs.ByNode.{pairs_at}
use Rattle.px_flow_points.proofs.pairs.grouped.Given as goal

abbrev pub invariant-loop-touch : goal.invariant-loop-touch
invariant-loop-touch l = (node : ℕ) → unwrap_or (get nat_eq l.groups node) [] ++ pairs_at node (drop l.touch-index l.touches) ≡ pairs_at node l.touches
