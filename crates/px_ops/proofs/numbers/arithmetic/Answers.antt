use Rattle.std.proofs.Common.{ap, ◌∙◌, w32, w64, rules, SFits, Ok, ℤ, to_z, of_z}
use Rattle.std.specs.Int.{int_wrapping_div}
use Rattle.std.proofs.lemmas.Int.{wrapping_add_is, wrapping_sub_is, to_z-of_z}
use Rattle.px_value.specs.declared.value.Value.TheVariants.{Int, Long}
use Rattle.px_ops.proofs.Wraps.{quot_int, quot_long, unless_no_zero}
use Rattle.px_ops.proofs.numbers.arithmetic.Goals as goal

pub returns-in-Add : goal.returns-in-Add
returns-in-Add c =
    let f : SFits w32 c.in-Ints.a = search rules in
    let g : SFits w32 c.in-Ints.b = search rules in
    rw (c.in-Ints.is, c.in-Add.is) (ap (λ (n : ℤ). Ok (Int n)) (wrapping_add_is w32 c.in-Ints.a c.in-Ints.b f g))

pub returns-in-Sub : goal.returns-in-Sub
returns-in-Sub c =
    let f : SFits w32 c.in-Ints.a = search rules in
    let g : SFits w32 c.in-Ints.b = search rules in
    rw (c.in-Ints.is, c.in-Sub.is) (ap (λ (n : ℤ). Ok (Int n)) (wrapping_sub_is w32 c.in-Ints.a c.in-Ints.b f g))

pub returns-else-b-eq0 : goal.returns-else-b-eq0
returns-else-b-eq0 c =
    let a = c.in-Ints.a in
    let b = c.in-Ints.b in
    let f : SFits w32 a = search rules in
    let g : SFits w32 b = search rules in
    let r : SFits w32 c.wrapping_div.result = search rules in
    rw (c.in-Ints.is, c.in-Div.is)
    (ap (λ (n : ℤ). Ok (Int n)) (to_z-of_z w32 _ r ∙ c.wrapping_div.ensures ∙ ap (λ (z : ℤ). int_wrapping_div w32 z (to_z w32 (of_z w32 b))) (to_z-of_z w32 a f) ∙ ap (int_wrapping_div w32 a) (to_z-of_z w32 b g) ∙ quot_int a b f)
    ∙ unless_no_zero w32 b _ c.if-b-eq0.false)

pub returns-in-Add-op : goal.returns-in-Add-op
returns-in-Add-op c =
    let f : SFits w64 c.in-Longs.a = search rules in
    let g : SFits w64 c.in-Longs.b = search rules in
    rw (c.in-Longs.is, c.in-Add-op.is) (ap (λ (n : ℤ). Ok (Long n)) (wrapping_add_is w64 c.in-Longs.a c.in-Longs.b f g))

pub returns-in-Sub-op : goal.returns-in-Sub-op
returns-in-Sub-op c =
    let f : SFits w64 c.in-Longs.a = search rules in
    let g : SFits w64 c.in-Longs.b = search rules in
    rw (c.in-Longs.is, c.in-Sub-op.is) (ap (λ (n : ℤ). Ok (Long n)) (wrapping_sub_is w64 c.in-Longs.a c.in-Longs.b f g))

pub returns-else-b-eq0-3 : goal.returns-else-b-eq0-3
returns-else-b-eq0-3 c =
    let a = c.in-Longs.a in
    let b = c.in-Longs.b in
    let f : SFits w64 a = search rules in
    let g : SFits w64 b = search rules in
    let r : SFits w64 c.wrapping_div-else-b-eq0-3.result = search rules in
    rw (c.in-Longs.is, c.in-Div-op.is)
    (ap (λ (n : ℤ). Ok (Long n)) (to_z-of_z w64 _ r ∙ c.wrapping_div-else-b-eq0-3.ensures ∙ ap (λ (z : ℤ). int_wrapping_div w64 z (to_z w64 (of_z w64 b))) (to_z-of_z w64 a f) ∙ ap (int_wrapping_div w64 a) (to_z-of_z w64 b g) ∙ quot_long a b f)
    ∙ unless_no_zero w64 b _ c.if-b-eq0-3.false)
