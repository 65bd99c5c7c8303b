use Rattle.std.proofs.Common.{◌≡◌, ◌++◌, map, drop}
use Rattle.px_lowering.specs.Types.{code_type}
use Rattle.px_lowering.specs.Programs.{first_types}
use Rattle.px_lowering.proofs.method.first_slots.Given as goal

abbrev pub invariant-loop-ty : goal.invariant-loop-ty
invariant-loop-ty l = first_types l.fn.fact ≡ l.slots ++ map code_type (drop l.ty-index l.locals)
