use Rattle.std.proofs.Common.{◌≡◌, ◌++◌, map, drop}
use Rattle.px_mean.specs.Facts.{default_of}
use Rattle.px_plain.proofs.effects.defaults.Given as goal

abbrev pub invariant-loop-ty : goal.invariant-loop-ty
invariant-loop-ty l = l.values ++ map default_of (drop l.ty-index l.types) ≡ map default_of l.fn.types
