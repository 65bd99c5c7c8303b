use Rattle.std.proofs.Common.{◌≡◌, ◌++◌, map, drop}
use Rattle.px_points.specs.Analysis.{first_marks}
use Rattle.px_points.proofs.analysis.first_slots.Given as goal

abbrev pub invariant-loop-method : goal.invariant-loop-method
invariant-loop-method l = l.slots.items ++ map first_marks (drop l.method-index l.methods) ≡ map first_marks l.methods
