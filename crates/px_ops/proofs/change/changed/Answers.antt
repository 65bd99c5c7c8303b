use Rattle.std.proofs.Common.{ap, ◌∙◌, w32, w64, rules, SFits, Ok, ℤ}
use Rattle.std.specs.Int.{int_wrapping_neg}
use Rattle.std.proofs.lemmas.Int.{wrapping_neg_is, to_z-of_z}
use Rattle.px_value.specs.declared.value.Value.TheVariants.{Int, Long}
use Rattle.px_ops.proofs.change.changed.Goals as goal

pub returns-in-Neg-Int : goal.returns-in-Neg-Int
returns-in-Neg-Int c =
    let f : SFits w32 c.wrapping_neg.result = search rules in
    let g : SFits w32 c.in-Neg-Int.a = search rules in
    rw (c.in-Neg-Int.is-0, c.in-Neg-Int.is-1) (ap (λ (n : ℤ). Ok (Int n)) (to_z-of_z w32 _ f ∙ c.wrapping_neg.ensures ∙ ap (int_wrapping_neg w32) (to_z-of_z w32 _ g) ∙ wrapping_neg_is w32 c.in-Neg-Int.a g))

pub returns-in-Neg-Long : goal.returns-in-Neg-Long
returns-in-Neg-Long c =
    let f : SFits w64 c.wrapping_neg-in-Neg-Long.result = search rules in
    let g : SFits w64 c.in-Neg-Long.a = search rules in
    rw (c.in-Neg-Long.is-0, c.in-Neg-Long.is-1) (ap (λ (n : ℤ). Ok (Long n)) (to_z-of_z w64 _ f ∙ c.wrapping_neg-in-Neg-Long.ensures ∙ ap (int_wrapping_neg w64) (to_z-of_z w64 _ g) ∙ wrapping_neg_is w64 c.in-Neg-Long.a g))
