use Rattle.std.proofs.Common.{◌≡◌, ◌++◌, drop}
use Rattle.px_half.specs.Messages.{written_from}
use Rattle.px_half.proofs.emit.push_written.Given as goal

abbrev pub invariant-loop-slot : goal.invariant-loop-slot
invariant-loop-slot l = l.told ++ written_from l.frame l.slot (drop l.slot l.fn.slots) ≡ l.fn.told ++ written_from l.frame 0 l.fn.slots
