use Rattle.std.proofs.Common.{◌≡◌, ◌++◌, map, drop}
use Rattle.px_effects.specs.Act.{header_of}
use Rattle.px_control.proofs.emit.headers.Given as goal

abbrev pub invariant-loop-object : goal.invariant-loop-object
invariant-loop-object l = l.headers.items ++ map header_of (drop l.object-index l.fn.objects) ≡ map header_of l.fn.objects
