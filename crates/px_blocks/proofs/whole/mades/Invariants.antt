use Rattle.std.proofs.Common.{◌≡◌, ◌++◌, drop}
use Rattle.px_blocks.specs.Seen.{mades_of}
use Rattle.px_blocks.proofs.whole.mades.Given as goal

abbrev pub invariant-loop-method : goal.invariant-loop-method
invariant-loop-method l = l.mades ++ mades_of l.fn.placed l.made (drop l.method-index l.fn.methods) ≡ mades_of l.fn.placed 0 l.fn.methods
