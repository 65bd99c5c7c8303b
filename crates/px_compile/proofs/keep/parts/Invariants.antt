use Rattle.std.proofs.Common.{◌≡◌, ◌++◌, drop}
use Rattle.px_compile.specs.Keep.{parts_from}
use Rattle.px_compile.proofs.keep.parts.Given as goal

abbrev pub invariant-loop-marked : goal.invariant-loop-marked
invariant-loop-marked l = l.parts ++ parts_from l.field (drop l.marked-index l.marked-items) ≡ parts_from 0 l.marked-items
