use Rattle.std.proofs.Common.{◌≡◌, ◌++◌, drop}
use Rattle.px_depend.specs.Objects.{updates}
use Rattle.px_depend.proofs.objects.updates.Given as goal

abbrev pub invariant-loop-touch : goal.invariant-loop-touch
invariant-loop-touch l = l.into.items ++ updates l.code (drop l.touch-index l.writes) ≡ l.fn.into.items ++ updates l.code l.writes
