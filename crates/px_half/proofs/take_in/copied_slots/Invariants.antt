use Rattle.std.proofs.Common.{◌≡◌, ◌++◌, drop}
use Rattle.px_half.proofs.take_in.copied_slots.Given as goal

abbrev pub invariant-loop-slot : goal.invariant-loop-slot
invariant-loop-slot l = l.copies.items ++ drop l.slot-index l.fn.slots ≡ l.fn.slots
