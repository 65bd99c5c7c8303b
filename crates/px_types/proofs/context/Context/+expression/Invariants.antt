use Rattle.std.proofs.Common.{◌≡◌, ◌++◌, drop, map}
use Rattle.px_type_rules.specs.Breaches.{after}
use Rattle.px_types.specs.Expressions.{arguments, types_of, typed}
use Rattle.px_types.proofs.context.Context.+expression.Given as goal

abbrev pub invariant-arguments-loop-arg : goal.invariant-arguments-loop-arg
invariant-arguments-loop-arg l = record {
  place : l.place ≡ l.arg-index;
  types : l.types ++ types_of l.fn.locals (map (typed l.fn.self) (drop l.arg-index l.fn.args)) ≡ types_of l.fn.locals (map (typed l.fn.self) l.fn.args);
  notes : after l.report (arguments l.fn.token l.fn.wanted l.place l.fn.locals (map (typed l.fn.self) (drop l.arg-index l.fn.args))) ≡ after l.fn.report (arguments l.fn.token l.fn.wanted 0 l.fn.locals (map (typed l.fn.self) l.fn.args));
}
