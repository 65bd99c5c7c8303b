use Rattle.std.proofs.Common.{◌≡◌}
use Rattle.std.specs.Vec.Iter.{into_iter_items}
use Rattle.px_half.specs.Absorbed.{with_slots}
use Rattle.px_half.proofs.take_in.fill_slots.Given as goal

abbrev pub invariant-loop-slot : goal.invariant-loop-slot
invariant-loop-slot l = with_slots l.fn.slots.items l.fn.frames.items ≡ with_slots (into_iter_items l.slot-iterator) l.frames.items
