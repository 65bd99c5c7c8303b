use Rattle.std.proofs.Common.{◌≡◌}
use Rattle.std.specs.Vec.Iter.{into_iter_items}
use Rattle.px_control.specs.Taken.{with_placed}
use Rattle.px_control.proofs.taking.place_slots.Given as goal

abbrev pub invariant-loop-slot : goal.invariant-loop-slot
invariant-loop-slot l = with_placed (into_iter_items l.slot-iterator) l.frames.items ≡ with_placed l.fn.slots.items l.fn.frames.items
