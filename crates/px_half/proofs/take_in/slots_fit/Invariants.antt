use Rattle.std.proofs.Common.{◌≡◌, drop}
use Rattle.std.specs.List.{list_all}
use Rattle.px_half.specs.Absorbed.{slot_fits}
use Rattle.px_half.proofs.take_in.slots_fit.Given as goal

abbrev pub invariant-loop-slot : goal.invariant-loop-slot
invariant-loop-slot l = list_all (slot_fits l.fn.plan l.fn.transfer l.fn.frames l.fn.heap) l.fn.transfer.slots ≡ list_all (slot_fits l.fn.plan l.fn.transfer l.fn.frames l.fn.heap) (drop l.slot-index l.fn.transfer.slots)
