use Rattle.std.proofs.Common.{◌≡◌, ◌++◌, map, drop}
use Rattle.px_code.specs.Machine.{just_written}
use Rattle.px_half.proofs.entering.push_written.Given as goal

abbrev pub invariant-loop-value : goal.invariant-loop-value
invariant-loop-value l = l.slots ++ map just_written (drop l.value-index l.fn.values) ≡ l.fn.slots ++ map just_written l.fn.values
