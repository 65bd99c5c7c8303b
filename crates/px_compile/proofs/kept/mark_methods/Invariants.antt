use Rattle.std.proofs.Common.{◌≡◌, drop}
use Rattle.px_compile.specs.Kept.{with_methods}
use Rattle.px_compile.proofs.kept.mark_methods.Given as goal

abbrev pub invariant-loop-method : goal.invariant-loop-method
invariant-loop-method l = with_methods l.points l.sides l.side l.number (drop l.method-index l.methods) l.marks ≡ with_methods l.points l.sides l.side 1 l.methods l.fn.marks
