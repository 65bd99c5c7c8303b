use Rattle.std.proofs.Common.{◌≡◌, map, drop}
use Rattle.px_straight.specs.Taken.{later, later_of, first_of}
use Rattle.px_straight.proofs.later.later.Given as goal

abbrev pub invariant-loop-method : goal.invariant-loop-method
invariant-loop-method l = later l.fn.code ≡ first_of (map (later_of l.fn.code) (drop l.method-index l.fn.code.methods))
