use Rattle.std.proofs.Common.{◌≡◌, None, Some, arith, slice_get, slice_set, sym, ap, ◌∙◌, w64}
use Rattle.std.proofs.lemmas.Int.{to_z-of_z}
use Rattle.std.specs.Option.{option_map}
use Rattle.px_rows.specs.Tables.{put_row}
use Rattle.px_rows.proofs.Does.{row_nowhere, slice_read, slice_past}
use Rattle.px_rows.proofs.Back.{with_row-none, with_row-some}
use Rattle.px_rows.proofs.tables.Tables.set.Goals as goal

pub returns-then-place-len-clause-new : goal.returns-then-place-len-clause-new
returns-then-place-len-clause-new c =
    let row = option_map (λ n. n.value.row) c.args.node in
    let t = c.index_mut.result.now in
    let e : slice_get c.args.self.now c.args.table ≡ Some t = (λ i. slice_get (sym c.self.view_is i) (sym c.from-place.ensures i)) ∙ slice_read c.self.inside.tables.items c.from-place.result t (omega (arith, c.len.ensures, c.if-place-len.true)) c.index_mut.ensures.value in
    (λ i. slice_set (c.self.view_is i) (c.from-place.ensures i) ((c.set.ensures.new ∙ ap (λ k. put_row k row t) (to_z-of_z w64 c.args.key c.ranges.key)) i))
    ∙ sym (with_row-some c.args.self.now (record { table = c.args.table; key = c.args.key }) t row e)

pub returns-else-place-len-clause-old : goal.returns-else-place-len-clause-old
returns-else-place-len-clause-old c =
    let e : slice_get c.args.self.now c.args.table ≡ None = (λ i. slice_get (sym c.self.view_is i) (sym c.from-place.ensures i)) ∙ slice_past c.self.inside.tables.items c.from-place.result (λ h. omega (arith, h, c.len.ensures, c.if-place-len.false)) in
    sym (row_nowhere c.args.self.now (record { table = c.args.table; key = c.args.key }) e)

pub returns-else-place-len-clause-new : goal.returns-else-place-len-clause-new
returns-else-place-len-clause-new c =
    let e : slice_get c.args.self.now c.args.table ≡ None = (λ i. slice_get (sym c.self.view_is i) (sym c.from-place.ensures i)) ∙ slice_past c.self.inside.tables.items c.from-place.result (λ h. omega (arith, h, c.len.ensures, c.if-place-len.false)) in
    sym (with_row-none c.args.self.now (record { table = c.args.table; key = c.args.key }) _ e)
