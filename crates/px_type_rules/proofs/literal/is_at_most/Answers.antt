use Rattle.std.proofs.Common.{arith}
use Rattle.px_type_rules.proofs.Decimals.{passes}
use Rattle.px_type_rules.proofs.literal.is_at_most.Goals as goal

pub returns-then-value-most : goal.returns-then-value-most
returns-then-value-most c =
    passes c.args.digits.now c.loop-digit.digit-index c.loop-digit.value c.args.most (omega arith) c.loop-digit.invariant.rest (omega arith)
