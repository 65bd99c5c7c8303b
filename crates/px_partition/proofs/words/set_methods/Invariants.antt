use Rattle.std.proofs.Common.{◌≡◌, drop}
use Rattle.px_partition.specs.Words.{with_methods}
use Rattle.px_partition.proofs.words.set_methods.Given as goal

abbrev pub invariant-loop-method : goal.invariant-loop-method
invariant-loop-method l = with_methods (drop l.method-index l.methods) l.words ≡ with_methods l.methods l.initial.words
