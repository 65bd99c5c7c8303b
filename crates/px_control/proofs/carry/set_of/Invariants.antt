use Rattle.std.proofs.Common.{◌≡◌, map, drop}
use Rattle.px_blocks.specs.Message.{in_order}
use Rattle.px_control.specs.Marks.{cell_of}
use Rattle.px_control.proofs.carry.set_of.Given as goal

abbrev pub invariant-loop-at : goal.invariant-loop-at
invariant-loop-at l = map cell_of l.set.keys ≡ in_order (map cell_of (drop l.at l.fn.marks))
