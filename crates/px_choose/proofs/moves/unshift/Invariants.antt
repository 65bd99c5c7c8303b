use Rattle.std.proofs.Common.{◌≡◌, ◌≤◌, length, take}
use Rattle.px_choose.specs.Gains.{back}
use Rattle.px_choose.specs.Kept.{IsKept}
use Rattle.px_choose.proofs.moves.unshift.Given as goal

abbrev pub invariant-turns : goal.invariant-turns
invariant-turns l = record {
  below : l.count ≤ length l.turned;
  kept : IsKept l.graph l.pins l.state;
  sides : back l.pins (take l.count l.turned) l.state.sides.items ≡ back l.pins l.turned l.fn.state.sides.items;
}

abbrev pub decreases-turns : goal.decreases-turns
decreases-turns l = l.count
