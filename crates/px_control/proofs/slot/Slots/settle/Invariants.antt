use Rattle.std.proofs.Common.{◌≡◌, length, map}
use Rattle.px_blocks.specs.Message.{settled}
use Rattle.px_control.specs.Slots.{slot_of}
use Rattle.px_control.proofs.InPlace.{so_far}
use Rattle.px_control.proofs.slot.Slots.settle.Given as goal

abbrev pub invariant-loop-at : goal.invariant-loop-at
invariant-loop-at l = record {
  same : length l.self-inside.items.items ≡ length l.fn.self;
  done : so_far settled l.fn.self l.at ≡ map slot_of l.self-inside.items.items;
}
