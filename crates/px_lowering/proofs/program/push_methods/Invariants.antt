use Rattle.std.proofs.Common.{◌≡◌, ◌++◌, drop}
use Rattle.px_mean.specs.Program.{methods_in}
use Rattle.px_lowering.specs.Methods.{all_now}
use Rattle.px_lowering.proofs.program.push_methods.Given as goal

abbrev pub invariant-loop-member : goal.invariant-loop-member
invariant-loop-member l = all_now l.methods.items ++ methods_in (drop l.member-index l.members) ≡ all_now l.fn.methods.items ++ methods_in l.fn.members
