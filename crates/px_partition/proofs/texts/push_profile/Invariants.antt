use Rattle.std.proofs.Common.{◌≡◌, ◌+◌, ◌++◌, drop}
use Rattle.px_partition.specs.Texts.{count_lines}
use Rattle.px_partition.proofs.texts.push_profile.Given as goal

abbrev pub invariant-loop-node : goal.invariant-loop-node
invariant-loop-node l = record {
  counted : l.number ≡ l.node-index;
  same : l.text.items ++ count_lines l.counts l.words (l.node-index + 1) (drop l.node-index l.code.nodes) ≡ l.initial.text.items ++ count_lines l.counts l.words 1 l.code.nodes;
}
