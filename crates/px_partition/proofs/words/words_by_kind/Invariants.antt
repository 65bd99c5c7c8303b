use Rattle.std.proofs.Common.{◌≡◌, ◌++◌, drop, map}
use Rattle.px_partition.specs.Words.{word_of_kind}
use Rattle.px_partition.proofs.words.words_by_kind.Given as goal

abbrev pub invariant-loop-node : goal.invariant-loop-node
invariant-loop-node l = l.words ++ map word_of_kind (drop l.node-index l.nodes) ≡ map word_of_kind l.nodes
