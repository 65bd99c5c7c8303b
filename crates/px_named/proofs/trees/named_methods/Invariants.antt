use Rattle.std.proofs.Common.{◌≡◌, ◌++◌, map, drop}
use Rattle.px_named.specs.Named.{named_method}
use Rattle.px_named.proofs.trees.named_methods.Given as goal

abbrev pub invariant-loop-method : goal.invariant-loop-method
invariant-loop-method l = l.named ++ map (named_method l.fn.code l.fn.placed) (drop l.method-index l.fn.methods) ≡ map (named_method l.fn.code l.fn.placed) l.fn.methods
