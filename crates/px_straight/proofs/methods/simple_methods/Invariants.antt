use Rattle.std.proofs.Common.{◌≡◌, ◌++◌, map, drop}
use Rattle.px_straight.specs.Simple.{simple_method}
use Rattle.px_straight.proofs.methods.simple_methods.Given as goal

abbrev pub invariant-loop-method : goal.invariant-loop-method
invariant-loop-method l = l.all ++ map simple_method (drop l.method-index l.fn.methods) ≡ map simple_method l.fn.methods
