use Rattle.std.proofs.Common.{◌≡◌, ◌++◌, map, drop}
use Rattle.px_blocks.specs.Message.{written_from}
use Rattle.px_control.specs.Slots.{slot_of}
use Rattle.px_control.proofs.emit.push_written.Given as goal

abbrev pub invariant-loop-at : goal.invariant-loop-at
invariant-loop-at l = l.told.items ++ written_from l.fn.frame l.at (map slot_of (drop l.at l.fn.slots)) ≡ l.fn.told.items ++ written_from l.fn.frame 0 (map slot_of l.fn.slots)
