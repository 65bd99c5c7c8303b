use Rattle.std.proofs.Common.{◌≡◌, ◌++◌, drop}
use Rattle.px_blocks.specs.Cutter.{firsts_from}
use Rattle.px_blocks.proofs.whole.first_blocks.Given as goal

abbrev pub invariant-loop-method : goal.invariant-loop-method
invariant-loop-method l = l.firsts ++ firsts_from l.fn.placed l.made (drop l.method-index l.fn.methods) ≡ firsts_from l.fn.placed 0 l.fn.methods
