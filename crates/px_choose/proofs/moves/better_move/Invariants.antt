use Rattle.std.proofs.Common.{◌≡◌, drop}
use Rattle.px_choose.specs.Choices.{first_move}
use Rattle.px_choose.specs.Kept.{IsKept}
use Rattle.px_choose.proofs.moves.better_move.Given as goal

abbrev pub invariant-loop-group : goal.invariant-loop-group
invariant-loop-group l = record {
  kept : IsKept l.graph l.pins l.state;
  same : l.state.sides.items ≡ l.fn.state.sides.items;
  rest : first_move l.graph l.budget l.pins l.fn.state.sides.items (drop l.group-index l.groups) ≡ first_move l.graph l.budget l.pins l.fn.state.sides.items l.groups;
}
