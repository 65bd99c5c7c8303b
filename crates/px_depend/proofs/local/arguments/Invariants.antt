use Rattle.std.proofs.Common.{◌≡◌, ◌++◌}
use Rattle.px_depend.specs.Local.{arguments}
use Rattle.px_depend.proofs.local.arguments.Given as goal

abbrev pub invariant-loop-before : goal.invariant-loop-before
invariant-loop-before l = l.into.items ≡ l.fn.into.items ++ arguments l.node l.to l.types l.before
