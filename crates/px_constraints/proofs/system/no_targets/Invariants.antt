use Rattle.std.proofs.Common.{◌≡◌, [], replicate}
use Rattle.px_constraints.proofs.system.no_targets.Given as goal

abbrev pub invariant-loop : goal.invariant-loop
invariant-loop l = l.lists.items ≡ replicate l.counter []
