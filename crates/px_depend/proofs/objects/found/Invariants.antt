use Rattle.std.proofs.Common.{◌≡◌, ◌++◌, drop}
use Rattle.px_depend.specs.Objects.{found}
use Rattle.px_depend.proofs.objects.found.Given as goal

abbrev pub invariant-loop-touch : goal.invariant-loop-touch
invariant-loop-touch l = l.into.items ++ found l.code l.writers (drop l.touch-index l.reads) ≡ l.fn.into.items ++ found l.code l.writers l.reads
