use Rattle.std.proofs.Common.{ap, ◌∙◌, w32, w64, rules, SFits, ◌%◌}
use Rattle.std.specs.Int.{cast_signed}
use Rattle.std.proofs.lemmas.Int.{to_z-of_z}
use Rattle.px_value.specs.declared.value.Value.TheVariants.{Int, Long}
use Rattle.px_plain.proofs.Digits.{int_bits, long_bits}
use Rattle.px_plain.proofs.operators.literal.Goals as goal

pub returns-then-long : goal.returns-then-long
returns-then-long c =
    let f : SFits w64 c.cast_signed.result = search rules in
    rw c.if-long.true (ap Long (to_z-of_z w64 _ f ∙ c.cast_signed.ensures ∙ ap (cast_signed w64) c.decimal_bits-bits.ensures ∙ long_bits _))

pub returns-else-long : goal.returns-else-long
returns-else-long c =
    let f : SFits w32 c.cast_signed-else-long.result = search rules in
    rw c.if-long.false (ap Int (to_z-of_z w32 _ f ∙ c.cast_signed-else-long.ensures ∙ ap (λ n. cast_signed w32 (n % 4294967296)) c.decimal_bits-bits.ensures ∙ int_bits _))
