use Rattle.std.proofs.Common.{◌≡◌, drop}
use Rattle.px_points.specs.Pass.{after_methods}
use Rattle.px_points.proofs.pass.Draft.methods.Given as goal

abbrev pub invariant-loop-place : goal.invariant-loop-place
invariant-loop-place l = after_methods l.place (drop l.place l.methods) l.self ≡ after_methods 0 l.methods l.fn.self
