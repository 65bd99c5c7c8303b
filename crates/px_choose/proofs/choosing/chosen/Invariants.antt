use Rattle.std.proofs.Common.{List}
use Rattle.px_code.specs.declared.side.Side.{Side}
use Rattle.px_graph.specs.Costs.{cost}
use Rattle.px_choose.specs.Choices.{Comes, begin_at}
use Rattle.px_choose.proofs.Bounds.{Holds}
use Rattle.px_choose.specs.Kept.{IsKept}
use Rattle.px_choose.proofs.choosing.chosen.Given as goal

abbrev pub invariant-changes : goal.invariant-changes
invariant-changes l = record {
  kept : IsKept l.graph l.pins l.state;
  holds : Holds l.graph l.budget l.pins l.state.sides.items;
  comes : (q : List Side) → Comes l.graph l.budget l.pins l.state.sides.items q → Comes l.graph l.budget l.pins (begin_at l.graph l.budget l.pins) q;
}

abbrev pub decreases-changes : goal.decreases-changes
decreases-changes l = cost l.graph l.state.sides.items
