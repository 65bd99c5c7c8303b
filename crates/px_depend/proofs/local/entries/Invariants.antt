use Rattle.std.proofs.Common.{◌≡◌, ◌++◌, drop}
use Rattle.px_depend.specs.Local.{entry_edges}
use Rattle.px_depend.proofs.local.entries.Given as goal

abbrev pub invariant-loop-method : goal.invariant-loop-method
invariant-loop-method l = l.into.items ++ entry_edges (drop l.method-index l.methods) ≡ l.fn.into.items ++ entry_edges l.methods
