use Rattle.std.proofs.Common.{◌≡◌, ◌++◌, drop}
use Rattle.px_half.specs.Messages.{written_slots}
use Rattle.px_half.proofs.emit.slots_told.Given as goal

abbrev pub invariant-loop-frame : goal.invariant-loop-frame
invariant-loop-frame l = l.told ++ written_slots l.frame (drop l.frame l.fn.frames) ≡ written_slots 0 l.fn.frames
