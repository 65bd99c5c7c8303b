use Rattle.std.proofs.Common.{◌≡◌, drop}
use Rattle.px_constraints.specs.Systems.{with_constraints}
use Rattle.px_constraints.proofs.system.System.add_all.Given as goal

abbrev pub invariant-loop-constraint : goal.invariant-loop-constraint
invariant-loop-constraint l = with_constraints (drop l.constraint-index l.constraints) l.self ≡ with_constraints l.constraints l.fn.self
