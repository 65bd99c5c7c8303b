use Rattle.std.proofs.Common.{◌≡◌, drop}
use Rattle.px_constraints.specs.Search.{with_starts}
use Rattle.px_constraints.proofs.facts.Facts.add_starts.Given as goal

abbrev pub invariant-loop-start : goal.invariant-loop-start
invariant-loop-start l = with_starts (drop l.start-index l.starts) l.self ≡ with_starts l.starts l.fn.self
