use Rattle.std.proofs.Common.{◌≡◌, ◌%◌, ◌^◌, drop}
use Rattle.px_mean.specs.Expressions.{decimal_value}
use Rattle.px_plain.proofs.operators.decimal_bits.Given as goal

abbrev pub invariant-loop-digit : goal.invariant-loop-digit
invariant-loop-digit l = decimal_value l.fn.digits 0 % 2 ^ 64 ≡ decimal_value (drop l.digit-index l.digits) l.bits % 2 ^ 64
