use Rattle.std.proofs.Common.{◌≡◌, ◌++◌, drop}
use Rattle.std.specs.Option.{option_copied}
use Rattle.px_half.specs.Carry.{names, carried as carried_of}
use Rattle.px_half.proofs.carry.carried.Given as goal

abbrev pub invariant-loop-cell : goal.invariant-loop-cell
invariant-loop-cell l = l.out ++ carried_of (option_copied l.plan) l.heap (names l.named) (drop l.cell-index l.cells) ≡ carried_of (option_copied l.plan) l.heap (names l.named) l.cells
