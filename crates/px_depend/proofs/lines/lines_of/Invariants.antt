use Rattle.std.proofs.Common.{◌≡◌, ◌+◌, ◌++◌, drop}
use Rattle.px_depend.specs.Lines.{methods_lines}
use Rattle.px_depend.proofs.lines.lines_of.Given as goal

abbrev pub invariant-loop-method : goal.invariant-loop-method
invariant-loop-method l = record {
  number : l.number ≡ l.method-index + 1;
  items : l.lines.items ++ methods_lines l.number (drop l.method-index l.methods) ≡ methods_lines 1 l.methods;
}
