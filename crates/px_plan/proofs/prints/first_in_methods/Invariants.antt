use Rattle.std.proofs.Common.{◌≡◌, drop}
use Rattle.px_plan.specs.Prints.{first_in_methods}
use Rattle.px_plan.proofs.prints.first_in_methods.Given as goal

abbrev pub invariant-loop-method : goal.invariant-loop-method
invariant-loop-method l = first_in_methods l.sides (drop l.method-index l.methods) ≡ first_in_methods l.sides l.methods
