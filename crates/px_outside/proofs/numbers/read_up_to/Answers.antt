use Rattle.std.proofs.Common.{sym, ◌∙◌, arith}
use Rattle.px_outside.proofs.Digits.{refused}
use Rattle.px_outside.proofs.numbers.read_up_to.Goals as goal

pub returns-in_err-number : goal.returns-in_err-number
returns-in_err-number c =
    let none = refused c.args.most c.loop-rest.number c.loop-rest.rest.now (omega (arith, c.in-len1-up.len_at_least)) (sym c.with_digit.ensures ∙ c.in_err-number.was) in
    c.from_residual.ensures ∙ sym none ∙ c.loop-rest.invariant.same
