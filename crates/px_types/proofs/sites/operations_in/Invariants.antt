use Rattle.std.proofs.Common.{◌≡◌, ◌++◌, drop}
use Rattle.px_types.specs.Sites.{operations_in}
use Rattle.px_types.proofs.sites.operations_in.Given as goal

abbrev pub invariant-loop-node : goal.invariant-loop-node
invariant-loop-node l = record {
  all : l.all ++ operations_in (drop l.node-index l.fn.nodes) ≡ operations_in l.fn.nodes;
}
