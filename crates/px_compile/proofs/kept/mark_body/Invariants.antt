use Rattle.std.proofs.Common.{◌≡◌, drop}
use Rattle.px_compile.specs.Kept.{with_body}
use Rattle.px_compile.proofs.kept.mark_body.Given as goal

abbrev pub invariant-loop-tree : goal.invariant-loop-tree
invariant-loop-tree l = with_body l.points l.sides l.side l.method (drop l.tree-index l.body) l.marks ≡ with_body l.points l.sides l.side l.method l.body l.fn.marks
