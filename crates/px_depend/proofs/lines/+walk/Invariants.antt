use Rattle.std.proofs.Common.{◌≡◌, ◌++◌, drop}
use Rattle.px_depend.specs.Lines.{trees_lines}
use Rattle.px_depend.proofs.lines.+walk.Given as goal

abbrev pub invariant-trees-loop-item : goal.invariant-trees-loop-item
invariant-trees-loop-item l = l.into.items ++ trees_lines l.method (drop l.item-index l.list) l.by ≡ l.fn.into.items ++ trees_lines l.method l.list l.by
