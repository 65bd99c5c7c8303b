use Rattle.std.proofs.Common.{◌≡◌, ◌++◌, drop}
use Rattle.px_lowering.specs.Methods.{all_now}
use Rattle.px_lowering.specs.Programs.{allocations}
use Rattle.px_lowering.proofs.program.find_allocations.Given as goal

abbrev pub invariant-loop-source : goal.invariant-loop-source
invariant-loop-source l = allocations l.fn.checked.facts 1 (all_now l.fn.sources) ≡ l.found ++ allocations l.fn.checked.facts l.number (all_now (drop l.source-index l.fn.sources))
