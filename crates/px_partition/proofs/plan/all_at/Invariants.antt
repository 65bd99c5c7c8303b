use Rattle.std.proofs.Common.{◌≡◌, ◌++◌, drop}
use Rattle.px_choose.specs.Placements.{all_at}
use Rattle.px_partition.proofs.plan.all_at.Given as goal

abbrev pub invariant-loop-pin : goal.invariant-loop-pin
invariant-loop-pin l = l.sides ++ all_at l.side (drop l.pin-index l.pins.sides) ≡ all_at l.side l.pins.sides
