use Rattle.std.proofs.Common.{◌≡◌, drop}
use Rattle.px_points.specs.Pass.{after_body}
use Rattle.px_points.proofs.pass.Draft.body.Given as goal

abbrev pub invariant-loop-tree : goal.invariant-loop-tree
invariant-loop-tree l = after_body l.place (drop l.tree-index l.body) l.self ≡ after_body l.place l.body l.fn.self
