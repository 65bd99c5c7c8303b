use Rattle.std.proofs.Common.{◌≡◌, ◌++◌, drop}
use Rattle.px_depend.specs.Summaries.{pairs}
use Rattle.px_depend.proofs.flows.pair_up.Given as goal

abbrev pub invariant-loop-place : goal.invariant-loop-place
invariant-loop-place l = l.into.items ++ pairs l.types l.leave (drop l.place-index l.arrive) ≡ l.fn.into.items ++ pairs l.types l.leave l.arrive
