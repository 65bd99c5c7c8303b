use Rattle.std.proofs.Common.{w32, rules, SFits, ◌∙◌}
use Rattle.std.proofs.lemmas.Int.{to_z-of_z}
use Rattle.px_ops.proofs.Wraps.{low_count}
use Rattle.px_ops.proofs.text.counted.Goals as goal

pub returns : goal.returns
returns c =
    let f : SFits w32 c.cast_signed.result = search rules in
    to_z-of_z w32 _ f ∙ c.cast_signed.ensures ∙ low_count c.args.n
