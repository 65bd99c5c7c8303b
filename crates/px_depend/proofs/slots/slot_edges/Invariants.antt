use Rattle.std.proofs.Common.{List, drop}
use Rattle.px_depend.specs.declared.edge.Edge.{Edge}
use Rattle.px_depend.specs.Summaries.{Adds, AreSlotEdges}
use Rattle.px_depend.proofs.slots.slot_edges.Given as goal

abbrev pub invariant-loop-method : goal.invariant-loop-method
invariant-loop-method l = (new : List Edge) → Adds l.into.items new (AreSlotEdges (drop l.method-index l.methods)) → Adds l.fn.into.items new (AreSlotEdges l.methods)
