use Rattle.std.proofs.Common.{◌≡◌, ◌++◌, drop}
use Rattle.px_job.specs.Prints.{prints_of_methods}
use Rattle.px_job.proofs.prints.list_of.Given as goal

abbrev pub invariant-loop-method : goal.invariant-loop-method
invariant-loop-method l = l.prints ++ prints_of_methods (drop l.method-index l.methods) ≡ prints_of_methods l.methods
