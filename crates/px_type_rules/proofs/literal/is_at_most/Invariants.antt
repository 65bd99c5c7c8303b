use Rattle.std.proofs.Common.{◌≡◌, ◌≤◌, drop}
use Rattle.px_type_rules.specs.Literals.{decimal_value}
use Rattle.px_type_rules.proofs.literal.is_at_most.Given as goal

abbrev pub invariant-loop-digit : goal.invariant-loop-digit
invariant-loop-digit l = record {
  within : l.value ≤ l.most;
  rest : decimal_value l.fn.digits 0 ≡ decimal_value (drop l.digit-index l.fn.digits) l.value;
}
