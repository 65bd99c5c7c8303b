use Rattle.std.proofs.Common.{◌≡◌, drop}
use Rattle.px_types.specs.Slots.{first_scope}
use Rattle.px_types.specs.Bodies.{with_params}
use Rattle.px_types.proofs.home.Home.params.Given as goal

abbrev pub invariant-loop-param : goal.invariant-loop-param
invariant-loop-param l = record {
  scope : with_params l.fn.self.classes.numbers l.scope (drop l.param-index l.fn.params) ≡ with_params l.fn.self.classes.numbers (first_scope l.fn.self.this) l.fn.params;
}
