use Rattle.std.proofs.Common.{◌≡◌, None, slice_get, sym, ap, ◌∙◌}
use Rattle.std.specs.Option.{option_copied}
use Rattle.px_rows.proofs.Does.{row_nowhere}
use Rattle.px_rows.proofs.tables.Tables.row.Goals as goal

pub returns-in-None : goal.returns-in-None
returns-in-None c =
    let e : slice_get c.args.self.now c.args.table ≡ None = (λ i. slice_get (sym (c.as_slice.ensures.value ∙ c.self.view_is) i) (sym c.from.ensures i)) ∙ sym c.at.ensures ∙ ap option_copied c.in-None.is in
    sym (row_nowhere c.args.self.now (record { table = c.args.table; key = c.args.key }) e)
