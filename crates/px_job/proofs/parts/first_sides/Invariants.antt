use Rattle.std.proofs.Common.{◌≡◌, ◌+◌, ◌++◌, drop}
use Rattle.px_job.specs.Parts.{first_sides}
use Rattle.px_job.proofs.parts.first_sides.Given as goal

abbrev pub invariant-loop-node : goal.invariant-loop-node
invariant-loop-node l =
    record {
      counted : l.number ≡ l._node-index;
      same : l.sides ++ first_sides l.has_budget l.prints (l._node-index + 1) (drop l._node-index l.nodes) ≡ first_sides l.has_budget l.prints 1 l.nodes;
    }
