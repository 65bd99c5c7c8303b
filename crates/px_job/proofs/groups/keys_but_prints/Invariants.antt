use Rattle.std.proofs.Common.{◌≡◌, ◌+◌, ◌++◌, drop}
use Rattle.px_job.specs.Groups.{keys_but_prints}
use Rattle.px_job.proofs.groups.keys_but_prints.Given as goal

abbrev pub invariant-loop-node : goal.invariant-loop-node
invariant-loop-node l =
    record {
      counted : l.number ≡ l.node-index;
      same : l.keys ++ keys_but_prints l.key l.prints (l.node-index + 1) (drop l.node-index l.nodes) ≡ keys_but_prints l.key l.prints 1 l.nodes;
    }
