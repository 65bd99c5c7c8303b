use Rattle.std.proofs.Common.{◌≡◌, drop}
use Rattle.px_type_rules.specs.Breaches.{after}
use Rattle.px_types.specs.Scopes.{no_locals}
use Rattle.px_types.specs.Methods.{param_notes, with_params}
use Rattle.px_types.proofs.context.Context.params.Given as goal

abbrev pub invariant-loop-param : goal.invariant-loop-param
invariant-loop-param l = record {
  locals : with_params l.fn.self.classes.numbers l.locals (drop l.param-index l.fn.params) ≡ with_params l.fn.self.classes.numbers no_locals l.fn.params;
  notes : after l.report (param_notes l.fn.self.classes.numbers l.locals (drop l.param-index l.fn.params)) ≡ after l.fn.report (param_notes l.fn.self.classes.numbers no_locals l.fn.params);
}
