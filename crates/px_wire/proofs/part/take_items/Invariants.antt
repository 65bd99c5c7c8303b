use Rattle.std.proofs.Common.{◌≡◌, ◌-◌}
use Rattle.px_wire.specs.Reading.{items_at}
use Rattle.px_wire.proofs.Items.{with_front}
use Rattle.px_wire.proofs.part.take_items.Given as goal

abbrev pub invariant-loop : goal.invariant-loop
invariant-loop g l = with_front l.items (items_at g.P.Part.part_at (l.count - l.counter) l.rest) ≡ items_at g.P.Part.part_at l.count l.from
