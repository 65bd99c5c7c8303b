use Rattle.std.proofs.Common.{◌≡◌, ◌++◌, drop}
use Rattle.px_job.specs.Placing.{sides_or_app}
use Rattle.px_job.proofs.placing.sides_or_app.Given as goal

abbrev pub invariant-loop-side : goal.invariant-loop-side
invariant-loop-side l = l.all ++ sides_or_app (drop l.side-index l.sides) ≡ sides_or_app l.sides
