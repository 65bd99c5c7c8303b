use Rattle.std.proofs.Common.{◌≡◌, ◌++◌, drop}
use Rattle.px_types.specs.Sites.{sited}
use Rattle.px_types.proofs.sites.with_sites.Given as goal

abbrev pub invariant-loop-node : goal.invariant-loop-node
invariant-loop-node l = record {
  all : l.all ++ sited l.call l.site (drop l.node-index l.fn.nodes) ≡ sited 1 1 l.fn.nodes;
}
