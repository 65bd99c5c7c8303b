use Rattle.std.proofs.Common.{◌≡◌, ◌++◌, map, drop}
use Rattle.px_value.specs.Defaults.{default_of}
use Rattle.px_code.specs.Frames.{blank}
use Rattle.px_half.proofs.entering.push_blanks.Given as goal

abbrev pub invariant-loop-ty : goal.invariant-loop-ty
invariant-loop-ty l = l.slots ++ map (λ t. blank (default_of t)) (drop l.ty-index l.fn.types) ≡ l.fn.slots ++ map (λ t. blank (default_of t)) l.fn.types
