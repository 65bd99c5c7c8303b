use Rattle.std.proofs.Common.{◌≡◌, ◌++◌, drop, map}
use Rattle.px_types.specs.Members.{param_type}
use Rattle.px_types.proofs.declare.param_types.Given as goal

abbrev pub invariant-loop-param : goal.invariant-loop-param
invariant-loop-param l = record {
  types : l.types ++ map (param_type l.fn.numbers) (drop l.param-index l.fn.params) ≡ map (param_type l.fn.numbers) l.fn.params;
}
