use Rattle.std.proofs.Common.{◌≡◌, drop}
use Rattle.px_choose.specs.Placements.{moved}
use Rattle.px_choose.specs.Gains.{back}
use Rattle.px_choose.specs.Kept.{IsKept}
use Rattle.px_choose.proofs.moves.shift.Given as goal

abbrev pub invariant-loop-node : goal.invariant-loop-node
invariant-loop-node l = record {
  kept : IsKept l.graph l.pins l.state;
  sides : moved l.pins (drop l.node-index l.nodes) l.side l.state.sides.items ≡ moved l.pins l.nodes l.side l.fn.state.sides.items;
  turns : back l.pins l.turned.items l.state.sides.items ≡ l.fn.state.sides.items;
}
