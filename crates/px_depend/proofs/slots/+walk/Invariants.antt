use Rattle.std.proofs.Common.{List, ◌++◌, drop}
use Rattle.px_depend.specs.declared.edge.Edge.{Edge}
use Rattle.px_depend.specs.declared.summary.Summary.{Summary}
use Rattle.px_depend.specs.Summaries.{Adds, IsWithin, AreSummaries, flows_in}
use Rattle.px_depend.proofs.slots.+walk.Given as goal

abbrev pub invariant-trees-loop-item : goal.invariant-trees-loop-item
invariant-trees-loop-item l = record {
  sums : (rest : List Summary) → AreSummaries rest (flows_in (drop l.item-index l.list)) → AreSummaries (l.all.items ++ rest) (flows_in l.list);
  within : (new : List Edge) → Adds l.into.items new (IsWithin l.types (drop l.item-index l.list)) → Adds l.fn.into.items new (IsWithin l.types l.list);
}
