use Rattle.std.proofs.Common.{◌≡◌, ◌++◌, drop}
use Rattle.px_flow_points.specs.ByNode.{touches_of}
use Rattle.px_flow_points.proofs.touched.touch.Given as goal

abbrev pub invariant-loop-site : goal.invariant-loop-site
invariant-loop-site l = l.into.items ++ touches_of l.node l.part (drop l.site-index l.sites) ≡ l.fn.into.items ++ touches_of l.node l.part l.sites
