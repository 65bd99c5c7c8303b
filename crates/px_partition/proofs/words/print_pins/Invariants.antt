use Rattle.std.proofs.Common.{◌≡◌, ◌++◌, drop}
use Rattle.px_partition.specs.Words.{print_pins}
use Rattle.px_partition.proofs.words.print_pins.Given as goal

abbrev pub invariant-loop-word : goal.invariant-loop-word
invariant-loop-word l = l.sides ++ print_pins (drop l.word-index l.words) ≡ print_pins l.words
