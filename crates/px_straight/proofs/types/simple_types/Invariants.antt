use Rattle.std.proofs.Common.{◌≡◌, ◌++◌, map, drop}
use Rattle.px_straight.specs.Simple.{simple_type}
use Rattle.px_straight.proofs.types.simple_types.Given as goal

abbrev pub invariant-loop-ty : goal.invariant-loop-ty
invariant-loop-ty l = l.all ++ map simple_type (drop l.ty-index l.fn.types) ≡ map simple_type l.fn.types
