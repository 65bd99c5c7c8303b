use Rattle.std.proofs.Common.{◌≡◌, drop}
use Rattle.px_sync.specs.Found.{any_kept}
use Rattle.px_sync.proofs.kept.Kept.keeps_any.Given as goal

abbrev pub invariant-loop-pair : goal.invariant-loop-pair
invariant-loop-pair l = any_kept l.code l.sides l.self l.side (drop l.pair-index l.pairs) ≡ any_kept l.code l.sides l.self l.side l.pairs
