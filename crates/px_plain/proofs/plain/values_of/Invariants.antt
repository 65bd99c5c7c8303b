use Rattle.std.proofs.Common.{◌≡◌, ◌++◌, ◌∷◌, drop}
use Rattle.px_value.specs.declared.value.Value.TheVariants.{Ref}
use Rattle.px_plain.proofs.plain.values_of.Given as goal

abbrev pub invariant-loop-arg : goal.invariant-loop-arg
invariant-loop-arg l = l.values ++ drop l.arg-index l.args ≡ Ref 0 ∷ l.fn.args
