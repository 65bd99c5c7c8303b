use Rattle.std.proofs.Common.{◌≡◌, ◌++◌, drop}
use Rattle.px_depend.specs.Summaries.{given_all}
use Rattle.px_depend.proofs.slots.parameters.Given as goal

abbrev pub invariant-loop-place : goal.invariant-loop-place
invariant-loop-place l = l.into.items ++ given_all l.types l.params l.node (drop l.place-index l.arrive) ≡ l.fn.into.items ++ given_all l.types l.params l.node l.arrive
