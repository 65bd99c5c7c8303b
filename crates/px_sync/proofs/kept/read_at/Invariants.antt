use Rattle.std.proofs.Common.{◌≡◌, ◌++◌, drop}
use Rattle.px_sync.specs.Found.{read_at}
use Rattle.px_sync.proofs.kept.read_at.Given as goal

abbrev pub invariant-loop-touch : goal.invariant-loop-touch
invariant-loop-touch l = l.pairs ++ read_at l.sides l.side (drop l.touch-index l.touches) ≡ read_at l.sides l.side l.touches
