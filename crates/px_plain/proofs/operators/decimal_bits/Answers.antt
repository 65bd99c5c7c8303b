use Rattle.std.proofs.Common.{arith, ◌∙◌}
use Rattle.px_plain.proofs.Digits.{one_digit}
use Rattle.px_plain.proofs.operators.decimal_bits.Goals as goal

pub loop-digit-preserved : goal.loop-digit-preserved
loop-digit-preserved c =
    one_digit _ 18446744073709551616 c.loop-digit.bits c.loop-digit.digit-index c.from.result c.args.digits.now (omega arith) (c.from.ensures ∙ c.saturating_sub.ensures) c.loop-digit.invariant
