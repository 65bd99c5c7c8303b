use Rattle.std.proofs.Common.{◌≡◌, ◌++◌, drop}
use Rattle.px_depend.specs.Local.{lines_edges}
use Rattle.px_depend.proofs.local.lines_edges.Given as goal

abbrev pub invariant-loop-line : goal.invariant-loop-line
invariant-loop-line l = l.into.items ++ lines_edges l.code l.given (drop l.line-index l.lines) ≡ l.fn.into.items ++ lines_edges l.code l.given l.lines
