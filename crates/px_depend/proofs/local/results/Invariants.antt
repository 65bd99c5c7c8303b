use Rattle.std.proofs.Common.{◌≡◌, ◌++◌, map, drop}
use Rattle.px_depend.specs.Local.{result_edge}
use Rattle.px_depend.proofs.local.results.Given as goal

abbrev pub invariant-loop-back : goal.invariant-loop-back
invariant-loop-back l = l.into.items ++ map (result_edge l.node l.ty) (drop l.back-index l.backs) ≡ l.fn.into.items ++ map (result_edge l.node l.ty) l.backs
