use Rattle.std.proofs.Common.{◌≡◌, ◌++◌, map, drop}
use Rattle.px_value.specs.declared.object.Object.{Object}
use Rattle.px_half.proofs.emit.headers.Given as goal

abbrev pub invariant-loop-object : goal.invariant-loop-object
invariant-loop-object l = l.headers ++ map (λ (o : Object). o.header) (drop l.object-index l.fn.objects) ≡ map (λ (o : Object). o.header) l.fn.objects
