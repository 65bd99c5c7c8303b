use Rattle.std.proofs.Common.{w32, w64, rules, SFits, ◌∙◌, ap, ℤ, pos}
use Rattle.std.specs.Int.{int_rem_euclid}
use Rattle.std.proofs.lemmas.Int.{to_z-of_z}
use Rattle.px_ops.proofs.Wraps.{low_int}
use Rattle.px_ops.proofs.change.narrow.Goals as goal

pub returns : goal.returns
returns c =
    let f : SFits w32 c.cast_signed.result = search rules in
    let r : SFits w64 c.rem_euclid.result = search rules in
    to_z-of_z w32 _ f ∙ c.cast_signed.ensures
    ∙ low_int c.args.n _ (to_z-of_z w64 _ r ∙ c.rem_euclid.ensures.value ∙ ap (λ (z : ℤ). int_rem_euclid z (pos 4294967296)) (to_z-of_z w64 c.args.n c.ranges.n))
