use Rattle.std.proofs.Common.{◌≡◌, ◌++◌, drop, map}
use Rattle.px_types.specs.Entries.{param_value}
use Rattle.px_types.proofs.main_class.param_values.Given as goal

abbrev pub invariant-loop-param : goal.invariant-loop-param
invariant-loop-param l = record {
  types : l.types ++ map (param_value l.fn.numbers) (drop l.param-index l.fn.params) ≡ map (param_value l.fn.numbers) l.fn.params;
}
