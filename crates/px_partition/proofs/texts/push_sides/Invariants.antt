use Rattle.std.proofs.Common.{◌≡◌, ◌+◌, ◌++◌, drop}
use Rattle.px_partition.specs.Texts.{side_lines}
use Rattle.px_partition.proofs.texts.push_sides.Given as goal

abbrev pub invariant-loop-node : goal.invariant-loop-node
invariant-loop-node l = record {
  counted : l.number ≡ l.node-index;
  same : l.text.items ++ side_lines l.sides l.words (l.node-index + 1) (drop l.node-index l.nodes) ≡ l.initial.text.items ++ side_lines l.sides l.words 1 l.nodes;
}
