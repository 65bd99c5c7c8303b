use Rattle.std.proofs.Common.{◌≡◌, ◌++◌, drop}
use Rattle.px_mean.specs.Program.{methods_of}
use Rattle.px_lowering.specs.Methods.{all_now}
use Rattle.px_lowering.proofs.program.methods_of.Given as goal

abbrev pub invariant-loop-class : goal.invariant-loop-class
invariant-loop-class l = all_now l.methods.items ++ methods_of (drop l.class-index l.classes) ≡ methods_of l.fn.classes
