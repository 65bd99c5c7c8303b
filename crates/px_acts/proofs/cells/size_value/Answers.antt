use Rattle.std.proofs.Common.{w32, rules, SFits, ap, ◌∙◌}
use Rattle.std.proofs.lemmas.Int.{to_z-of_z}
use Rattle.px_value.specs.declared.value.Value.TheVariants.{Int}
use Rattle.px_acts.proofs.Sizes.{low_count}
use Rattle.px_acts.proofs.cells.size_value.Goals as goal

pub returns : goal.returns
returns c =
    let f : SFits w32 c.cast_signed.result = search rules in
    ap Int (to_z-of_z w32 _ f ∙ c.cast_signed.ensures ∙ low_count c.args.size)
