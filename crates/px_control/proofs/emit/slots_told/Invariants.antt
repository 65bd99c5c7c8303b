use Rattle.std.proofs.Common.{◌≡◌, ◌++◌, drop}
use Rattle.px_blocks.specs.Message.{written_slots}
use Rattle.px_control.proofs.emit.slots_told.Given as goal

abbrev pub invariant-loop-frame : goal.invariant-loop-frame
invariant-loop-frame l = l.told.items ++ written_slots l.frame (drop l.frame l.fn.frames) ≡ written_slots l.fn.from (drop l.fn.from l.fn.frames)
