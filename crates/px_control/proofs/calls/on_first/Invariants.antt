use Rattle.std.proofs.Common.{◌≡◌, ◌∷◌, take}
use Rattle.px_value.specs.declared.value.Value.TheVariants.{Ref}
use Rattle.px_control.proofs.calls.on_first.Given as goal

abbrev pub invariant-loop-value : goal.invariant-loop-value
invariant-loop-value l = l.values.items ≡ Ref 0 ∷ take l.value-index l.args
