use Rattle.std.proofs.Common.{length, refl, sym, ◌∙◌, arith}
use Rattle.std.proofs.lemmas.Option.{slice_get_read}
use Rattle.px_acts.proofs.Short.{too_much}
use Rattle.px_acts.proofs.Sizes.{dropped}
use Rattle.px_acts.proofs.operations.are_short.Goals as goal

pub returns-then-size-total : goal.returns-then-size-total
returns-then-size-total c =
    let at = slice_get_read c.args.values.now (length c.args.values.now) c.loop-value.value-index c.value-item.result refl (omega arith) c.value-item.is in
    sym (c.loop-value.invariant.rest ∙ too_much c.loop-value.total c.value-item.result _ _ (dropped c.args.values.now c.loop-value.value-index c.value-item.result at) (omega (arith, c.text_size-size.ensures)))
