use Rattle.std.proofs.Common.{◌≡◌, ◌++◌, drop}
use Rattle.px_choose.specs.Placements.{all_at}
use Rattle.px_choose.proofs.pins.all.Given as goal

abbrev pub invariant-loop-pin : goal.invariant-loop-pin
invariant-loop-pin l = l.sides.items ++ all_at l.side (drop l.pin-index l.pins) ≡ all_at l.side l.pins
